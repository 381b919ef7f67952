-- Lines that are fed to an auditor, and what it answers to them.
use Rattle.std.proofs.Common.{◌≡◌, refl, sym, ap, ◌∙◌, append-nil, true, List, [], ◌∷◌, ◌++◌, Some, None}
use Rattle.std.proofs.Common.{Option, Result, Ok, Err}
use Rattle.std.specs.Prelude.{◌↔◌}
use Rattle.std.proofs.lemmas.Bool.{true≢false}
use Rattle.packing_terms.specs.Packing.{PlainInstance}
use Rattle.packing_terms.specs.Results.{◌>>=◌}
use Rattle.verdict_terms.specs.declared.explained_answers.AuditCode.{AuditCode}
use Rattle.verdict_terms.specs.declared.explained_answers.AuditCode.TheVariants.{After}
use Rattle.verdict_terms.specs.declared.explained_answers.AuditVerdict.{AuditVerdict}
use Rattle.verdict_terms.specs.declared.explained_answers.AuditVerdict.TheVariants.{More, Done, Refused}
use Rattle.verdict_terms.specs.Steps.{PlainStep}
use Rattle.verdict_terms.specs.Explaining.{Explains}
use Rattle.verdict_terms.specs.ExplainedJudging.{AuditNode, at_rest}
use Rattle.verdict_terms.specs.Auditing.{Audited, audited_after, audited_after_all, audited_by, audited_with}
use Rattle.verdict_terms.specs.Auditing.{audited_with_all, starting, is_whole, is_whole_by, answered, answered_by, LeavesOpen}
use Rattle.verdict_terms.proofs.ExplainedFed.{explained_fed}
use Rattle.verdict_terms.proofs.Explained.{fed_explains}

-- where `Done` is answered, the tree is whole
done_whole : (s : Audited) → answered s ≡ Done → is_whole s ≡ true
done_whole s e = go s.refused s.nodes e
  where
    go : (o : Option AuditCode) (nodes : List AuditNode) → answered_by o nodes ≡ Done → is_whole_by o nodes ≡ true
    go None [] k = refl
    go None (n ∷ nodes) k = absurd (cc (k))
    go (Some code) nodes k = absurd (cc (k))

module _ (instance : PlainInstance) where
  abbrev refusing : List AuditNode → AuditCode → Audited
  refusing nodes code = record { nodes = nodes; refused = Some code }

  abbrev going_on : List AuditNode → Audited
  going_on nodes = record { nodes = nodes; refused = None }

  fed_more : (s : Audited) (lines more : List PlainStep)
      → audited_with_all instance s (lines ++ more)
      ≡ audited_with_all instance (audited_with_all instance s lines) more
  fed_more s [] more = refl
  fed_more s (line ∷ lines) more = fed_more (audited_with instance s line) lines more

  -- a refusal stays
  refused_stays : (nodes : List AuditNode) (code : AuditCode) (lines : List PlainStep)
      → audited_with_all instance (refusing nodes code) lines ≡ refusing nodes code
  refused_stays nodes code [] = refl
  refused_stays nodes code (line ∷ lines) = refused_stays nodes code lines

  refused_answers : (s : Audited) (code : AuditCode) (lines : List PlainStep) → answered s ≡ Refused code
      → answered (audited_with_all instance s lines) ≡ Refused code
  refused_answers s code lines e = go s.refused s.nodes e
    where
      go : (o : Option AuditCode) (nodes : List AuditNode) → answered_by o nodes ≡ Refused code
          → answered (audited_with_all instance (record { nodes = nodes; refused = o }) lines) ≡ Refused code
      go None [] k = absurd (cc (k))
      go None (n ∷ nodes) k = absurd (cc (k))
      go (Some other) nodes k = ap answered (refused_stays nodes other lines) ∙ k

  -- lines that are taken whole leave no node
  whole_taken : (nodes : List AuditNode) (lines : List PlainStep)
      → is_whole (audited_with_all instance (going_on nodes) lines) ≡ true
      → audited_after_all instance nodes lines ≡ Ok []
  whole_taken [] [] e = refl
  whole_taken (n ∷ nodes) [] e = absurd (true≢false (sym e))
  whole_taken nodes (line ∷ lines) e = go (audited_after instance nodes line) e (λ left. whole_taken left lines)
    where
      go : (r : Result (List AuditNode) AuditCode)
          → is_whole (audited_with_all instance (audited_by nodes r) lines) ≡ true
          → ((left : List AuditNode) → is_whole (audited_with_all instance (going_on left) lines) ≡ true
          → audited_after_all instance left lines ≡ Ok [])
          → (r >>= λ left. audited_after_all instance left lines) ≡ Ok []
      go (Ok left) k later = later left k
      go (Err code) k later = absurd (true≢false (sym k ∙ ap is_whole (refused_stays nodes code lines)))

  -- lines that leave nodes are all taken
  taken_fed : (nodes left : List AuditNode) (lines : List PlainStep) → audited_after_all instance nodes lines ≡ Ok left
      → audited_with_all instance (going_on nodes) lines ≡ going_on left
  taken_fed nodes left [] e = let same : nodes ≡ left = cc (e) in ap going_on same
  taken_fed nodes left (line ∷ lines) e =
      go (audited_after instance nodes line) e (λ next k. taken_fed next left lines k)
    where
      go : (r : Result (List AuditNode) AuditCode) → (r >>= λ next. audited_after_all instance next lines) ≡ Ok left
          → ((next : List AuditNode) → audited_after_all instance next lines ≡ Ok left
          → audited_with_all instance (going_on next) lines ≡ going_on left)
          → audited_with_all instance (audited_by nodes r) lines ≡ going_on left
      go (Ok next) k later = later next k
      go (Err code) k later = absurd (cc (k))

  -- what explains is taken whole
  explained_taken : (lines : List PlainStep) → Explains instance [] lines
      → audited_with_all instance starting lines ≡ going_on []
  explained_taken lines h = taken_fed (at_rest [] ∷ []) [] lines
      (ap (λ z. audited_after_all instance (at_rest [] ∷ []) z) (sym (append-nil lines))
      ∙ explained_fed instance h [] [])

  pub whole_explains : (lines : List PlainStep)
      → (is_whole (audited_with_all instance starting lines) ≡ true) ↔ Explains instance [] lines
  whole_explains lines = (
    λ e. fed_explains instance [] lines (whole_taken (at_rest [] ∷ []) lines e),
    λ h. ap is_whole (explained_taken lines h),
  )

  pub done_explains : (lines : List PlainStep)
      → (answered (audited_with_all instance starting lines) ≡ Done) ↔ Explains instance [] lines
  done_explains lines = (
    λ e. (whole_explains lines).0 (done_whole (audited_with_all instance starting lines) e),
    λ h. ap answered (explained_taken lines h),
  )

  -- a line that isn't accepted is refused, and so are those behind it
  refused_fed : (nodes : List AuditNode) (code : AuditCode) (lines : List PlainStep)
      → audited_after_all instance nodes lines ≡ Err code
      → answered (audited_with_all instance (going_on nodes) lines) ≡ Refused code
  refused_fed nodes code [] e = absurd (cc (e))
  refused_fed nodes code (line ∷ lines) e =
      go (audited_after instance nodes line) e (λ next k. refused_fed next code lines k)
    where
      go : (r : Result (List AuditNode) AuditCode) → (r >>= λ next. audited_after_all instance next lines) ≡ Err code
          → ((next : List AuditNode) → audited_after_all instance next lines ≡ Err code
          → answered (audited_with_all instance (going_on next) lines) ≡ Refused code)
          → answered (audited_with_all instance (audited_by nodes r) lines) ≡ Refused code
      go (Ok next) k later = later next k
      go (Err other) k later =
          let same : other ≡ code = cc (k) in
          ap answered (refused_stays nodes other lines) ∙ ap Refused same

  module _ (lines : List PlainStep) where
    abbrev outcome : Result (List AuditNode) AuditCode
    outcome = audited_after_all instance (at_rest [] ∷ []) lines

    abbrev answer : AuditVerdict
    answer = answered (audited_with_all instance starting lines)

    -- the answer by what is left
    left_answer : (left : List AuditNode) → outcome ≡ Ok left → answer ≡ answered_by None left
    left_answer left e = ap answered (taken_fed (at_rest [] ∷ []) left lines e)

    refused_answer : (code : AuditCode) → outcome ≡ Err code → answer ≡ Refused code
    refused_answer code e = refused_fed (at_rest [] ∷ []) code lines e

    pub more_open : (answer ≡ More) ↔ LeavesOpen instance lines
    more_open = (go outcome refl, λ (n, nodes, e). left_answer (n ∷ nodes) e)
      where
        go : (r : Result (List AuditNode) AuditCode) → outcome ≡ r → answer ≡ More → LeavesOpen instance lines
        go (Ok []) e k = let f : Done ≡ More = sym (left_answer [] e) ∙ k in absurd (cc (f))
        go (Ok (n ∷ nodes)) e k = (n, nodes, e)
        go (Err code) e k = let f : Refused code ≡ More = sym (refused_answer code e) ∙ k in absurd (cc (f))

    pub refused_first : (code : AuditCode) → (answer ≡ Refused code) ↔ (outcome ≡ Err code)
    refused_first code = (go outcome refl, refused_answer code)
      where
        go : (r : Result (List AuditNode) AuditCode) → outcome ≡ r → answer ≡ Refused code → outcome ≡ Err code
        go (Ok []) e k = let f : Done ≡ Refused code = sym (left_answer [] e) ∙ k in absurd (cc (f))
        go (Ok (n ∷ nodes)) e k =
            let f : More ≡ Refused code = sym (left_answer (n ∷ nodes) e) ∙ k in absurd (cc (f))
        go (Err other) e k =
            let f : Refused other ≡ Refused code = sym (refused_answer other e) ∙ k in
            let same : other ≡ code = cc (f) in
            e ∙ ap Err same

  pub refusal_stays : (lines more : List PlainStep) (code : AuditCode)
      → answered (audited_with_all instance starting lines) ≡ Refused code
      → answered (audited_with_all instance starting (lines ++ more)) ≡ Refused code
  refusal_stays lines more code e =
      ap answered (fed_more starting lines more)
      ∙ refused_answers (audited_with_all instance starting lines) code more e

  pub past_whole : (lines more : List PlainStep) (line : PlainStep) → Explains instance [] lines
      → answered (audited_with_all instance starting (lines ++ line ∷ more)) ≡ Refused After
  past_whole lines more line h =
      ap answered (fed_more starting lines (line ∷ more))
      ∙ (ap (λ s. answered (audited_with_all instance s (line ∷ more))) (explained_taken lines h)
      ∙ ap answered (refused_stays [] After more))
