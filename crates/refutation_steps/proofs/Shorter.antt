-- Lines that are written, and lines that an auditor accepts.
use Rattle.std.proofs.Common.{◌≡◌, ◌≤◌, ◌<◌, ◌+◌, ℕ, zero, suc, refl, sym, ap, ◌∙◌, arith, true, Bool, List, [], ◌∷◌}
use Rattle.std.proofs.Common.{◌++◌, append-nil, length, drop, get_or, Some, None, Result, Ok, Err}
use Rattle.std.proofs.lemmas.Bool.{true≢false}
use Rattle.packing_terms.specs.Packing.{PlainInstance}
use Rattle.packing_terms.specs.Results.{◌>>=◌}
use Rattle.packing_terms.specs.Tokens.{PlainToken}
use Rattle.verdict_terms.specs.declared.explained_answers.AuditCode.{AuditCode}
use Rattle.verdict_terms.specs.Steps.{PlainStep, tokens_among}
use Rattle.verdict_terms.specs.Explaining.{Explains}
use Rattle.verdict_terms.specs.ExplainedJudging.{AuditNode, at_rest}
use Rattle.verdict_terms.specs.Auditing.{Audited, audited_after, audited_after_all, audited_by, audited_with}
use Rattle.verdict_terms.specs.Auditing.{is_whole, starting}
use Rattle.verdict_terms.proofs.Stepped.{tokens_joined}
use Rattle.verdict_terms.proofs.Explained.{fed_explains}
use Rattle.refutation_steps.specs.Shortened.{IsNoToken}

-- ---- lines, one after another

left_line : (ls : List PlainStep) (k : ℕ) (d : PlainStep) → k < length ls
    → drop k ls ≡ get_or ls k d ∷ drop (suc k) ls
left_line [] k d h = absurd (omega (arith, h))
left_line (l ∷ ls) zero d h = refl
left_line (l ∷ ls) (suc k) d h = left_line ls k d (omega (arith, h))

none_left : (ls : List PlainStep) (k : ℕ) → length ls ≤ k → drop k ls ≡ []
none_left [] zero h = refl
none_left [] (suc k) h = refl
none_left (l ∷ ls) zero h = absurd (omega (arith, h))
none_left (l ∷ ls) (suc k) h = none_left ls k (omega (arith, h))

-- ---- an audit, line by line

abbrev pub run : PlainInstance → Audited → List PlainStep → Audited
run instance s [] = s
run instance s (z ∷ zs) = run instance (audited_with instance s z) zs

module _ (instance : PlainInstance) where
  abbrev refusing : List AuditNode → AuditCode → Audited
  refusing nodes code = record { nodes = nodes; refused = Some code }

  abbrev going_on : List AuditNode → Audited
  going_on nodes = record { nodes = nodes; refused = None }

  refused_stays : (nodes : List AuditNode) (code : AuditCode) (zs : List PlainStep)
      → run instance (refusing nodes code) zs ≡ refusing nodes code
  refused_stays nodes code [] = refl
  refused_stays nodes code (z ∷ zs) = refused_stays nodes code zs

  whole_run : (nodes : List AuditNode) (zs : List PlainStep) → is_whole (run instance (going_on nodes) zs) ≡ true
      → audited_after_all instance nodes zs ≡ Ok []
  whole_run [] [] h = refl
  whole_run (n ∷ nodes) [] h = absurd (true≢false (sym h))
  whole_run nodes (z ∷ zs) h = go (λ left. whole_run left zs) (audited_after instance nodes z) h
    where
      go : ((left : List AuditNode) → is_whole (run instance (going_on left) zs) ≡ true
          → audited_after_all instance left zs ≡ Ok [])
          → (r : Result (List AuditNode) AuditCode) → is_whole (run instance (audited_by nodes r) zs) ≡ true
          → (r >>= λ left. audited_after_all instance left zs) ≡ Ok []
      go rest (Ok left) k = rest left k
      go rest (Err code) k = absurd (true≢false (sym (sym (ap is_whole (refused_stays nodes code zs)) ∙ k)))

  pub accepted : (zs : List PlainStep) → is_whole (run instance starting zs) ≡ true → Explains instance [] zs
  accepted zs h = fed_explains instance [] zs (whole_run (at_rest [] ∷ []) zs h)

  module _ (ls : List PlainStep) (k : ℕ) (d l : PlainStep) (there : k < length ls) (is : l ≡ get_or ls k d) where
    pub run_next : (a b whole : Audited) → b ≡ audited_with instance a l
        → run instance a (drop k ls) ≡ whole
        → run instance b (drop (k + 1) ls) ≡ whole
    run_next a b whole e h =
        let s : suc k ≡ k + 1 = omega arith in
        ap (λ (m : Audited). run instance m (drop (k + 1) ls)) e
        ∙ (ap (λ (n : ℕ). run instance (audited_with instance a l) (drop n ls)) (sym s)
        ∙ (ap (λ (m : PlainStep). run instance (audited_with instance a m) (drop (suc k) ls)) is
        ∙ (sym (ap (λ (m : List PlainStep). run instance a m) (left_line ls k d there)) ∙ h)))

  pub run_whole : (ls : List PlainStep) (k : ℕ) (a : Audited) (b : Bool) → length ls ≤ k
      → run instance a (drop k ls) ≡ run instance starting ls
      → b ≡ is_whole a → b ≡ true → Explains instance [] ls
  run_whole ls k a b h e f t =
      accepted ls (ap is_whole (sym e ∙ ap (λ (m : List PlainStep). run instance a m) (none_left ls k h))
      ∙ (sym f ∙ t))

-- ---- lines of reasons and tokens

pub line_passed : (x y : List PlainStep) (l : PlainStep) → IsNoToken l → y ≡ x ++ l ∷ []
    → tokens_among y ≡ tokens_among x
line_passed x y l h e = ap tokens_among e ∙
    (tokens_joined x (l ∷ []) ∙ (ap (λ (m : List PlainToken). tokens_among x ++ m) h ∙ append-nil (tokens_among x)))

pub line_taken : (x mid y : List PlainStep) (l : PlainStep) (t : PlainToken) → tokens_among mid ≡ tokens_among x
    → y ≡ mid ++ l ∷ [] → tokens_among (l ∷ []) ≡ t ∷ []
    → tokens_among y ≡ tokens_among x ++ t ∷ []
line_taken x mid y l t same e h =
    ap tokens_among e ∙ (tokens_joined mid (l ∷ []) ∙
    (ap (λ (m : List PlainToken). tokens_among mid ++ m) h ∙ ap (λ (m : List PlainToken). m ++ t ∷ []) same))
