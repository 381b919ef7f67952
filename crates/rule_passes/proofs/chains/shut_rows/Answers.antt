use Rattle.std.proofs.Common.{◌≡◌, ◌<◌, ◌*◌, ◌∙◌, ℕ, List, refl, sym, true}
use Rattle.packing_terms.specs.declared.Direction.TheVariants.{Forwards, Backwards}
use Rattle.edge_state.specs.ChainWeights.{weights_in}
use Rattle.std.proofs.lemmas.Bool.{and_parts}
use Rattle.packing_terms.specs.declared.Exclusion.{Exclusion}
use Rattle.packing_terms.specs.Packing.{box_count}
use Rattle.edge_state.specs.BitRows.{row_has}
use Rattle.edge_state.specs.Passes.{IsChainChecked}
use Rattle.edge_state.proofs.RowBits.{members_fewer}
use Rattle.edge_state.proofs.Passes.{pass_as, sizes_passed, heads_more, tails_more, shut_kept}
use Rattle.rule_passes.proofs.ChainPasses.{pass_lost}
use Rattle.rule_passes.proofs.Members.{members_start, members_next}
use Rattle.rule_passes.proofs.chains.shut_rows.Goals as goal

pub loop-u-init : goal.loop-u-init
loop-u-init g c = record {
  within = c.requires.within;
  pass = members_start _ _ (row_has c.args.row) (λ u es. (v : ℕ) → v < box_count c.args.instance.now
      → IsChainChecked c.args.instance.now c.args.dim (weights_in c.args.weights.now.numbers Backwards c.args.dim) (weights_in c.args.weights.now.numbers Forwards c.args.dim) u v es);
}

pub shut_from-requires : goal.shut_from-requires
shut_from-requires g c = record {
  words = c.requires.words;
  sizes = sizes_passed _ _ _ _ _ c.loop-u.invariant.pass c.requires.sizes;
  u = c.loop-u.invariant.within c.in-Some.u c.in-Some.ensures.least.there;
  heads = heads_more _ _ _ _ _ c.loop-u.invariant.pass.extends.kept c.requires.heads;
  tails = tails_more _ _ _ _ _ c.loop-u.invariant.pass.extends.kept c.requires.tails;
}

pub loop-u-smaller : goal.loop-u-smaller
loop-u-smaller g c =
    members_fewer (row_has c.loop-u.rest) (row_has c.without-rest.result) c.in-Some.u (64 * g.row.K)
    c.without-rest.ensures c.in-Some.ensures.least.there c.in-Some.ensures.limit

pub loop-u-preserved : goal.loop-u-preserved
loop-u-preserved g c =
    let P : ℕ → List Exclusion → Type 0 = λ u es. (v : ℕ) → v < box_count c.args.instance.now
    → IsChainChecked c.args.instance.now c.args.dim (weights_in c.args.weights.now.numbers Backwards c.args.dim) (weights_in c.args.weights.now.numbers Forwards c.args.dim) u v es in
    record {
      within = λ u on. c.loop-u.invariant.within u (and_parts _ _ (sym (c.without-rest.ensures u) ∙ on)).0;
      pass = members_next _ _ _ _ (row_has c.args.row) (row_has c.loop-u.rest) (row_has c.without-rest.result)
          c.in-Some.u P
          (λ u es fs more h v l. shut_kept c.args.instance.now c.args.dim (weights_in c.args.weights.now.numbers Backwards c.args.dim)
          (weights_in c.args.weights.now.numbers Forwards c.args.dim) u v es fs more (h v l)) c.without-rest.ensures c.loop-u.invariant.pass
          c.shut_from.ensures.pass;
    }

pub returns-then-shut_from-clause-pass : goal.returns-then-shut_from-clause-pass
returns-then-shut_from-clause-pass g c =
    pass_lost _ _ _ _ true _ _ (λ es. (u : ℕ) → row_has c.args.row u ≡ true → (v : ℕ)
    → v < box_count c.args.instance.now
    → IsChainChecked c.args.instance.now c.args.dim (weights_in c.args.weights.now.numbers Backwards c.args.dim) (weights_in c.args.weights.now.numbers Forwards c.args.dim) u v es) refl
    c.loop-u.invariant.pass c.shut_from.ensures.pass

pub returns-clause-pass : goal.returns-clause-pass
returns-clause-pass g c =
    pass_as _ _ _ _ _ (λ es f e u on. f u on (c.in_default.ensures.least u)) c.loop-u.invariant.pass
