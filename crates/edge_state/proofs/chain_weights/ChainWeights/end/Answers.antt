use Rattle.std.proofs.Common.{◌≡◌, ◌⊎◌, inl, inr, ◌∙◌, arith, reverse, length, [], ◌∷◌, sym, subst}
use Rattle.std.proofs.lemmas.List.{length-reverse}
use Rattle.packing_terms.specs.Packing.{dims, box_count}
use Rattle.edge_state.specs.ChainWeights.{PlainWeights, AreOf}
use Rattle.edge_state.proofs.Histories.{of_ended_either, ends_pushed}
use Rattle.edge_state.proofs.chain_weights.ChainWeights.end.Goals as goal
use Rattle.edge_state.proofs.chain_weights.ChainWeights.end.Goals.{then-len-ge-MAX_ENDS, else-len-ge-MAX_ENDS}

pub returns-clause-held : goal.returns-clause-held
returns-clause-held c instance es e same h good =
    let either : (c.if-len-ge-MAX_ENDS.self ≡ c.args.self.now)
    ⊎ (c.if-len-ge-MAX_ENDS.self ≡ record c.args.self.now { log = []; ends = [] }) =
    elim c.if-len-ge-MAX_ENDS.branch [
      | then-len-ge-MAX_ENDS w ↦ inr (w.self-is ∙ w.forget.ensures)
      | else-len-ge-MAX_ENDS w ↦ inl w.self-is
    ] in
    let count : c.len-raises.result ≡ length (reverse c.self-2.inside.log.items) =
    omega (arith, c.len-raises.ensures, c.self-2.inside.log.ok.0, length-reverse c.self-2.inside.log.items) in
    rw (ends_pushed c.self-2.inside.ends.items c.push_reserved.new.self.items c.args.at _ _
    c.push_reserved.ensures.items count)
    (subst (λ (k : PlainWeights). AreOf (dims instance) (box_count instance) es
    (record k { ends = record { mark = c.args.at; raises = length k.log } ∷ k.ends })) (sym c.self-2.view_is)
    (of_ended_either instance es c.args.self.now c.if-len-ge-MAX_ENDS.self c.args.at either e same h good))
