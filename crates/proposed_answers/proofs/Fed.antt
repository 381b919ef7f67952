-- Tokens that were fed one by one.
use Rattle.std.proofs.Common.{◌≡◌, ℕ, ◌+◌, ◌<◌, ◌∙◌, refl, sym, ap, List, [], ◌∷◌, ◌++◌, length}
use Rattle.std.proofs.Common.{map, take, get_or}
use Rattle.std.proofs.lemmas.List.{map_push, take_more}
use Rattle.packing_terms.specs.declared.Exclusion.{Exclusion}
use Rattle.packing_terms.specs.Packing.{PlainInstance}
use Rattle.packing_terms.specs.Tokens.{PlainToken}
use Rattle.box_instances.specs.Sets.{all_boxes}
use Rattle.verdict_terms.specs.Checking.{Checked, starting, checked_after, checked_after_all, inner_after}
use Rattle.proof_tree.specs.declared.token.Token.{Token}
use Rattle.proof_tree.specs.Plain.{plain_token}
use Rattle.refutation_check.specs.Refuters.{PlainRefuter, fed}
use Rattle.refutation_check.proofs.Whole.{whole_set}

-- the refuter of an instance to which these tokens were fed
abbrev pub fed_all : PlainInstance → List PlainToken → PlainRefuter
fed_all instance ts = record {
  instance = instance;
  keep = all_boxes instance;
  checked = checked_after_all (inner_after instance) (starting []) ts;
}

after_more : (instance : PlainInstance) (c : Checked (List Exclusion)) (ts : List PlainToken) (t : PlainToken)
    → checked_after_all (inner_after instance) c (ts ++ t ∷ [])
    ≡ checked_after (inner_after instance) (checked_after_all (inner_after instance) c ts) t
after_more instance c [] t = refl
after_more instance c (s ∷ ts) t = after_more instance (checked_after (inner_after instance) c s) ts t

-- one token more
pub fed_more : (instance : PlainInstance) (ts : List PlainToken) (t : PlainToken)
    → fed (fed_all instance ts) t ≡ fed_all instance (ts ++ t ∷ [])
fed_more instance ts t =
    ap (λ (i : PlainInstance). record {
      instance = instance;
      keep = all_boxes instance;
      checked = checked_after (inner_after i) (checked_after_all (inner_after instance) (starting []) ts) t;
    })
    (whole_set instance)
    ∙ sym (ap (λ (c : Checked (List Exclusion)). record { instance = instance; keep = all_boxes instance; checked = c })
    (after_more instance (starting []) ts t))

-- the token at a position more
pub fed_next : (instance : PlainInstance) (tokens : List Token) (k : ℕ) (t : Token) (r s : PlainRefuter)
    → k < length tokens → t ≡ get_or tokens k t
    → r ≡ fed_all instance (map plain_token (take k tokens)) → s ≡ fed r (plain_token t)
    → s ≡ fed_all instance (map plain_token (take (k + 1) tokens))
fed_next instance tokens k t r s l is e f =
    f ∙ (ap (λ (x : PlainRefuter). fed x (plain_token t)) e
    ∙ (fed_more instance (map plain_token (take k tokens)) (plain_token t)
    ∙ ap (λ (ts : List PlainToken). fed_all instance ts) (sym longer)))
  where
    longer : map plain_token (take (k + 1) tokens) ≡ map plain_token (take k tokens) ++ plain_token t ∷ []
    longer = ap (map plain_token) (take_more tokens k t l ∙ ap (λ (x : Token). take k tokens ++ x ∷ []) (sym is))
        ∙ map_push plain_token (take k tokens) t
