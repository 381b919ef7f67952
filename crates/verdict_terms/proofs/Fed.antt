-- Tokens that are taken one by one are those that are fed.
use Rattle.std.proofs.Common.{◌≡◌, refl, ap, ◌∙◌, List, [], ◌∷◌, ◌++◌, Option, Some, None, Ok}
use Rattle.std.specs.Prelude.{◌↔◌}
use Rattle.packing_terms.specs.Results.{◌>>=◌}
use Rattle.packing_terms.specs.Tokens.{PlainToken}
use Rattle.packing_terms.specs.Feeding.{FeedsBy}
use Rattle.verdict_terms.specs.declared.check_answers.RefuseCode.{RefuseCode}
use Rattle.verdict_terms.specs.Checking.{nodes_after, nodes_after_all, left_by}

module _ {Node : Type 0} (Takes : Node → PlainToken → Type 0) (below : Node → PlainToken → List Node)
    (refusal : Node → PlainToken → Option RefuseCode)
    (exact : (n : Node) (t : PlainToken) → (refusal n t ≡ None) ↔ Takes n t) where
  pub taken_fed : (nodes : List Node) (ts : List PlainToken) (left : List Node)
      → nodes_after_all (nodes_after refusal below) nodes ts ≡ Ok left
      → FeedsBy Takes below nodes ts left
  taken_fed nodes [] left e = cc (e)
  taken_fed [] (t ∷ ts) left e = absurd (cc (e))
  taken_fed (n ∷ nodes) (t ∷ ts) left e = go (refusal n t) refl e (taken_fed (below n t ++ nodes) ts left)
    where
      go : (o : Option RefuseCode) → refusal n t ≡ o
          → (left_by o (below n t) nodes >>= λ more. nodes_after_all (nodes_after refusal below) more ts) ≡ Ok left
          → (nodes_after_all (nodes_after refusal below) (below n t ++ nodes) ts ≡ Ok left
          → FeedsBy Takes below (below n t ++ nodes) ts left)
          → Takes n t × FeedsBy Takes below (below n t ++ nodes) ts left
      go None f k later = ((exact n t).0 f, later k)
      go (Some code) f k later = absurd (cc (k))

  pub fed_taken : (nodes : List Node) (ts : List PlainToken) (left : List Node) → FeedsBy Takes below nodes ts left
      → nodes_after_all (nodes_after refusal below) nodes ts ≡ Ok left
  fed_taken nodes [] left e = ap Ok e
  fed_taken [] (t ∷ ts) left e = absurd e
  fed_taken (n ∷ nodes) (t ∷ ts) left e =
      ap (λ o. (left_by o (below n t) nodes >>= λ more. nodes_after_all (nodes_after refusal below) more ts))
      ((exact n t).1 e.0)
      ∙ fed_taken (below n t ++ nodes) ts left e.1
