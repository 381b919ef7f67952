-- The beginning of a walk, and its end.
use Rattle.std.proofs.Common.{◌≡◌, ◌≤◌, ◌<◌, ◌+◌, ℕ, zero, suc, refl, sym, ap, subst, ◌∙◌, arith, List, [], ◌∷◌, ◌++◌}
use Rattle.std.proofs.Common.{append-nil, length, reverse, take, drop, get_or, None}
use Rattle.std.proofs.lemmas.List.{reverse-append}
use Rattle.packing_terms.specs.declared.Exclusion.{Exclusion}
use Rattle.packing_terms.specs.Packing.{PlainInstance}
use Rattle.packing_terms.specs.Tokens.{PlainToken}
use Rattle.packing_terms.specs.Refutation.{Refutes, by_rules, by_side, by_scales, by_apart, by_order}
use Rattle.packing_terms.proofs.Closures.{given_derived}
use Rattle.edge_state.specs.Edges.{oldest}
use Rattle.edge_state.proofs.Oldest.{oldest_none}
use Rattle.verdict_terms.specs.Steps.{PlainStep, tokens_among}
use Rattle.verdict_terms.specs.Explaining.{Explains}
use Rattle.proof_tree.specs.declared.token.Token.{Token}
use Rattle.proof_tree.specs.Plain.{plain_token, plain_tokens}
use Rattle.refutation_steps.specs.Walks.{IsBetween}
use Rattle.refutation_steps.specs.declared.pending.Pending.{Pending}
use Rattle.refutation_steps.specs.declared.walk_state.Walk.{Walk}
use Rattle.refutation_steps.specs.Nodes.{IsDrawn, IsAwaited, AreAwaiting, entered, ExplainsEach, IsWalking, IsAtNode}
use Rattle.refutation_steps.proofs.Waits.{enters}

nil_cons : (t : PlainToken) (l : List PlainToken) → [] ≡ t ∷ l → ⊥
nil_cons t l e = let k : 0 ≡ length (t ∷ l) = ap length e in omega (arith, k)

abbrev rooted : ℕ → ℕ → Pending
rooted given held = record { given = given; held = held; closed = None; first = None; second = None }

abbrev root : Pending
root = record { given = 0; held = 0; closed = None; first = None; second = None }

module _ (instance : PlainInstance) where
  refutes_some : {es : List Exclusion} {own : List PlainToken} → Refutes instance es own → (others : List PlainToken)
      → [] ≡ own ++ others → ⊥
  refutes_some (by_rules c) others e = nil_cons _ _ e
  refutes_some (by_side h) others e = nil_cons _ _ e
  refutes_some (by_scales h) others e = nil_cons _ _ e
  refutes_some (by_apart h p a b) others e = nil_cons _ _ e
  refutes_some (by_order h p a b) others e = nil_cons _ _ e

  -- nothing waits behind the last token
  pub walked : (G H : List Exclusion) (ps : List Pending) (lines : List PlainStep) → IsWalking instance G H ps lines []
      → Explains instance [] lines
  walked G H [] lines w = subst (λ (l : List PlainStep). Explains instance [] l) (append-nil lines) (w.leads [] refl)
  walked G H (p ∷ ps) lines w = let n = w.awaits.2 in absurd (refutes_some n.opened.refutes n.others n.parts)

  -- some node waits before the last token
  pub some_waits : (G H : List Exclusion) (ps : List Pending) (lines : List PlainStep) (t : PlainToken)
      (z : List PlainToken) → IsWalking instance G H ps lines (t ∷ z) → ps ≡ [] → ⊥
  some_waits G H ps lines t z w e =
      let a = subst (λ (k : List Pending). AreAwaiting instance G H k (t ∷ z)) e w.awaits in nil_cons t z (sym a)

  pub begins : (G H : List Exclusion) (ps : List Pending) (lines : List PlainStep) (z : List PlainToken) → G ≡ []
      → H ≡ [] → ps ≡ root ∷ [] → lines ≡ [] → Refutes instance [] z
      → IsWalking instance G H ps lines z
  begins G H ps lines z g h p l r =
      subst (λ (k : List Exclusion). IsWalking instance k H ps lines z) (sym g)
      (subst (λ (k : List Exclusion). IsWalking instance [] k ps lines z) (sym h)
      (subst (λ (k : List Pending). IsWalking instance [] [] k lines z) (sym p)
      (subst (λ (k : List PlainStep). IsWalking instance [] [] (root ∷ []) k z) (sym l) whole)))
    where
      nothing : oldest 0 [] ≡ []
      nothing = oldest_none [] 0 refl

      drawn : IsDrawn instance [] [] [] None
      drawn = record {
        given_all = λ i u v q k. k;
        held_all = λ i u v q k. k;
        given_derived = given_derived instance [];
        held_derived = given_derived instance [];
        known = tt;
      }

      own : IsAwaited instance [] [] root (AreAwaiting instance [] [] []) z
      own = record {
        es = [];
        own = z;
        others = [];
        parts = sym (append-nil z);
        opened = record { refutes = r; drawn = drawn };
        first = tt;
        second = tt;
        after = refl;
      }

      whole : IsWalking instance [] [] (root ∷ []) [] z
      whole = record {
        awaits = (
          omega arith,
          omega arith,
          subst (λ (L : List Exclusion). IsAwaited instance L (oldest 0 []) root
              (AreAwaiting instance L (oldest 0 []) []) z) (sym nothing)
              (subst (λ (M : List Exclusion). IsAwaited instance [] M root (AreAwaiting instance [] M []) z)
              (sym nothing) own),
        );
        leads = λ more e.
            let f : ExplainsEach instance ([] ∷ []) more =
            subst (λ (M : List Exclusion). ExplainsEach instance (M ∷ []) more) nothing e in
            subst (λ (l : List PlainStep). Explains instance [] l)
            (sym (f.parts ∙ (ap (λ (k : List PlainStep). f.own ++ k) f.after ∙ append-nil f.own))) f.explains;
      }

-- the root alone waits at first
pub root_there : (given held : ℕ) (new old : List Pending) → reverse new ≡ rooted given held ∷ reverse old
    → given ≡ 0 → held ≡ 0 → old ≡ [] → reverse new ≡ root ∷ []
root_there given held new old e g h n =
    e ∙ (ap (λ (k : ℕ). rooted k held ∷ reverse old) g ∙
    (ap (λ (k : ℕ). rooted 0 k ∷ reverse old) h ∙ ap (λ (l : List Pending). root ∷ reverse l) n))

-- the next node was taken from the list, and entered
pub entered_by : (instance : PlainInstance) (G H G' H' : List Exclusion) (old new : List Pending) (p : Pending)
    (lines : List PlainStep) (z : List PlainToken)
    → old ≡ new ++ p ∷ [] → G' ≡ entered p (oldest p.given G) → H' ≡ entered p (oldest p.held H)
    → IsWalking instance G H (reverse old) lines z
    → IsAtNode instance G' H' p.closed (reverse new) lines z
entered_by instance G H G' H' old new p lines z e g h w =
    subst (λ (k : List Exclusion). IsAtNode instance k H' p.closed (reverse new) lines z) (sym g)
    (subst (λ (k : List Exclusion). IsAtNode instance (entered p (oldest p.given G)) k p.closed (reverse new) lines z)
    (sym h)
    (enters instance G H p (reverse new) lines z
    (subst (λ (k : List Pending). IsWalking instance G H k lines z)
    (ap (λ (l : List Pending). reverse l) e ∙ reverse-append new (p ∷ [])) w)))

-- ---- tokens, one after another

next_token : (ts : List Token) (k : ℕ) (d : Token) → k < length ts
    → drop k (plain_tokens ts) ≡ plain_token (get_or ts k d) ∷ drop (suc k) (plain_tokens ts)
next_token [] k d h = absurd (omega (arith, h))
next_token (t ∷ ts) zero d h = refl
next_token (t ∷ ts) (suc k) d h = next_token ts k d (omega (arith, h))

one_more : (ts : List Token) (k : ℕ) (d : Token) → k < length ts
    → take (suc k) (plain_tokens ts) ≡ take k (plain_tokens ts) ++ plain_token (get_or ts k d) ∷ []
one_more [] k d h = absurd (omega (arith, h))
one_more (t ∷ ts) zero d h = refl
one_more (t ∷ ts) (suc k) d h = ap (λ (l : List PlainToken). plain_token t ∷ l) (one_more ts k d (omega (arith, h)))

module _ (ts : List Token) (k : ℕ) (t : Token) (there : k < length ts) (is : t ≡ get_or ts k t) where
  abbrev rest : List PlainToken
  rest = drop (k + 1) (plain_tokens ts)

  succ : suc k ≡ k + 1
  succ = omega arith

  left : drop k (plain_tokens ts) ≡ plain_token t ∷ rest
  left = next_token ts k t there ∙ (ap (λ (n : ℕ). plain_token (get_or ts k t) ∷ drop n (plain_tokens ts)) succ ∙
      ap (λ (x : Token). plain_token x ∷ rest) (sym is))

  pub next_between : (instance : PlainInstance) (w : Walk) → IsBetween instance w (drop k (plain_tokens ts))
      → IsBetween instance w (plain_token t ∷ rest)
  next_between instance w b = subst (λ (l : List PlainToken). IsBetween instance w l) left b

  pub told_more : (x y : List PlainStep) → tokens_among x ≡ take k (plain_tokens ts)
      → tokens_among y ≡ tokens_among x ++ plain_token t ∷ []
      → tokens_among y ≡ take (k + 1) (plain_tokens ts)
  told_more x y h e =
      e ∙ (ap (λ (l : List PlainToken). l ++ plain_token t ∷ []) h
      ∙ (ap (λ (z : Token). take k (plain_tokens ts) ++ plain_token z ∷ []) is ∙
      (sym (one_more ts k t there) ∙ ap (λ (n : ℕ). take n (plain_tokens ts)) succ)))

pub none_left : (ts : List Token) (k : ℕ) → length ts ≤ k → drop k (plain_tokens ts) ≡ []
none_left [] zero h = refl
none_left [] (suc k) h = refl
none_left (t ∷ ts) zero h = absurd (omega (arith, h))
none_left (t ∷ ts) (suc k) h = none_left ts k (omega (arith, h))

pub all_told : (ts : List Token) (k : ℕ) → length ts ≤ k → take k (plain_tokens ts) ≡ plain_tokens ts
all_told [] zero h = refl
all_told [] (suc k) h = refl
all_told (t ∷ ts) zero h = absurd (omega (arith, h))
all_told (t ∷ ts) (suc k) h = ap (λ (l : List PlainToken). plain_token t ∷ l) (all_told ts k (omega (arith, h)))
