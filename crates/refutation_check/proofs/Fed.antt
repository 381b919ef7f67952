-- One token more.
use Rattle.std.proofs.Common.{◌≡◌, ◌≢◌, ℕ, ◌+◌, refl, sym, ap, ◌∙◌, arith, List, [], ◌∷◌, ◌++◌, length, take, reverse}
use Rattle.std.proofs.Common.{slice_index_or, Option, Some, None, Ok}
use Rattle.std.proofs.lemmas.List.{take_all, take_more, reverse-append}
use Rattle.packing_terms.specs.declared.Exclusion.{Exclusion}
use Rattle.packing_terms.specs.Packing.{PlainInstance, dims, box_count}
use Rattle.packing_terms.specs.Tokens.{PlainToken}
use Rattle.packing_terms.specs.Feeding.{children}
use Rattle.edge_state.specs.Edges.{PlainEdges, oldest}
use Rattle.verdict_terms.specs.declared.check_answers.RefuseCode.{RefuseCode}
use Rattle.verdict_terms.specs.declared.check_answers.FeedVerdict.TheVariants.{More, Done}
use Rattle.verdict_terms.specs.Judging.{refusal}
use Rattle.verdict_terms.specs.Checking.{Checked, checked_after, checked_by, inner_after, left_by, answered_by}
use Rattle.refutation_check.specs.declared.node.OpenNode.{OpenNode}
use Rattle.refutation_check.specs.Nodes.{Stands, IsReady, IsOver, AreHeld}

pub split_last : (held : List OpenNode) (last : ℕ) (d : OpenNode) → last + 1 ≡ length held
    → reverse held ≡ slice_index_or held last d ∷ reverse (take last held)
split_last held last d e =
    ap reverse (sym (take_all (last + 1) held (omega (arith, e))) ∙ take_more held last d (omega (arith, e)))
    ∙ reverse-append (take last held) (slice_index_or held last d ∷ [])

stands_ready : (instance : PlainInstance) (A es : List Exclusion) (first : Option Exclusion)
    → Stands instance A first es → IsReady instance first es
stands_ready instance A es None h = tt
stands_ready instance A es (Some e) h = (h.stable, h.full)

pub over_held : (instance : PlainInstance) (start sp : List Exclusion) (state : PlainEdges) (n : OpenNode)
    (ns : List OpenNode) → state.dims ≡ dims instance
    → state.boxes ≡ box_count instance → AreHeld instance start sp state.trail (length state.trail) (length sp) (n ∷ ns)
    → IsOver instance state n
over_held instance start sp state n ns e f (m, c, node, rest) = record {
  same_dims = e;
  same_boxes = f;
  mark = m;
  first = rw (e, f) node.first_there;
  second = rw (e, f) node.second_there;
  ready = stands_ready instance _ (oldest n.mark state.trail) n.first node.stands;
}

pub fed_refused : (instance : PlainInstance) (nodes : List (List Exclusion)) (x : List Exclusion)
    (xs : List (List Exclusion)) (code : RefuseCode) (t : PlainToken)
    → nodes ≡ x ∷ xs → Some code ≡ refusal instance x t
    → ◌≡◌ {A = Checked (List Exclusion)} (record { nodes = nodes; refused = Some code })
    (checked_after (inner_after instance) (record { nodes = nodes; refused = None }) t)
fed_refused instance nodes x xs code t e f =
    ap (λ r. checked_by nodes r) (sym
    (ap (λ l. inner_after instance l t) e ∙ ap (λ o. left_by o (children x t) xs) (sym f)))

pub fed_accepted : (instance : PlainInstance) (nodes left : List (List Exclusion)) (x : List Exclusion)
    (xs : List (List Exclusion)) (t : PlainToken)
    → nodes ≡ x ∷ xs → None ≡ refusal instance x t → left ≡ children x t ++ xs
    → ◌≡◌ {A = Checked (List Exclusion)} (record { nodes = left; refused = None })
    (checked_after (inner_after instance) (record { nodes = nodes; refused = None }) t)
fed_accepted instance nodes left x xs t e f g =
    ap (λ l. checked_by nodes (Ok l)) g
    ∙ ap (λ r. checked_by nodes r)
    (sym (ap (λ l. inner_after instance l t) e ∙ ap (λ o. left_by o (children x t) xs) (sym f)))

pub answered_done : (l : List (List Exclusion)) → length l ≡ 0 → Done ≡ answered_by None l
answered_done [] e = refl
answered_done (x ∷ l) e = absurd (omega (arith, e))

pub answered_on : (l : List (List Exclusion)) → length l ≢ 0 → More ≡ answered_by None l
answered_on [] e = absurd (e refl)
answered_on (x ∷ l) e = refl

pub split_node : (held : List OpenNode) (last : ℕ) (n : OpenNode) → last + 1 ≡ length held
    → slice_index_or held last n ≡ n → reverse held ≡ n ∷ reverse (take last held)
split_node held last n e f = split_last held last n e ∙ ap (λ (m : OpenNode). m ∷ reverse (take last held)) f
