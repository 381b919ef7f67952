use Rattle.std.proofs.Common.{◌≡◌, ◌<◌, ◌*◌, ◌∙◌, ℕ, List, refl, sym, true}
use Rattle.packing_terms.specs.declared.Direction.TheVariants.{Forwards, Backwards}
use Rattle.edge_state.specs.ChainWeights.{weights_in}
use Rattle.std.proofs.lemmas.Bool.{and_parts}
use Rattle.packing_terms.specs.declared.Exclusion.{Exclusion}
use Rattle.packing_terms.specs.Packing.{box_count}
use Rattle.edge_state.specs.BitRows.{row_has}
use Rattle.edge_state.specs.Passes.{IsChainChecked}
use Rattle.edge_state.proofs.RowBits.{members_fewer}
use Rattle.edge_state.proofs.Passes.{pass_as, sizes_passed, heads_more, tails_more, shut_kept}
use Rattle.rule_passes.proofs.ChainPasses.{pass_lost}
use Rattle.rule_passes.proofs.Members.{members_start, members_next}
use Rattle.rule_passes.proofs.chains.shut_columns.Goals as goal

pub loop-v-init : goal.loop-v-init
loop-v-init g c = record {
  within = c.requires.within;
  pass = members_start _ _ (row_has c.args.row) (λ v es. (u : ℕ) → u < box_count c.args.instance.now
      → IsChainChecked c.args.instance.now c.args.dim (weights_in c.args.weights.now.numbers Backwards c.args.dim) (weights_in c.args.weights.now.numbers Forwards c.args.dim) u v es);
}

pub shut_to-requires : goal.shut_to-requires
shut_to-requires g c = record {
  words = c.requires.words;
  sizes = sizes_passed _ _ _ _ _ c.loop-v.invariant.pass c.requires.sizes;
  v = c.loop-v.invariant.within c.in-Some.v c.in-Some.ensures.least.there;
  heads = heads_more _ _ _ _ _ c.loop-v.invariant.pass.extends.kept c.requires.heads;
  tails = tails_more _ _ _ _ _ c.loop-v.invariant.pass.extends.kept c.requires.tails;
}

pub loop-v-smaller : goal.loop-v-smaller
loop-v-smaller g c =
    members_fewer (row_has c.loop-v.rest) (row_has c.without-rest.result) c.in-Some.v (64 * g.row.K)
    c.without-rest.ensures c.in-Some.ensures.least.there c.in-Some.ensures.limit

pub loop-v-preserved : goal.loop-v-preserved
loop-v-preserved g c =
    let P : ℕ → List Exclusion → Type 0 = λ v es. (u : ℕ) → u < box_count c.args.instance.now
    → IsChainChecked c.args.instance.now c.args.dim (weights_in c.args.weights.now.numbers Backwards c.args.dim) (weights_in c.args.weights.now.numbers Forwards c.args.dim) u v es in
    record {
      within = λ v on. c.loop-v.invariant.within v (and_parts _ _ (sym (c.without-rest.ensures v) ∙ on)).0;
      pass = members_next _ _ _ _ (row_has c.args.row) (row_has c.loop-v.rest) (row_has c.without-rest.result)
          c.in-Some.v P
          (λ v es fs more h u l. shut_kept c.args.instance.now c.args.dim (weights_in c.args.weights.now.numbers Backwards c.args.dim)
          (weights_in c.args.weights.now.numbers Forwards c.args.dim) u v es fs more (h u l)) c.without-rest.ensures c.loop-v.invariant.pass
          c.shut_to.ensures.pass;
    }

pub returns-then-shut_to-clause-pass : goal.returns-then-shut_to-clause-pass
returns-then-shut_to-clause-pass g c =
    pass_lost _ _ _ _ true _ _ (λ es. (v : ℕ) → row_has c.args.row v ≡ true → (u : ℕ)
    → u < box_count c.args.instance.now
    → IsChainChecked c.args.instance.now c.args.dim (weights_in c.args.weights.now.numbers Backwards c.args.dim) (weights_in c.args.weights.now.numbers Forwards c.args.dim) u v es) refl
    c.loop-v.invariant.pass c.shut_to.ensures.pass

pub returns-clause-pass : goal.returns-clause-pass
returns-clause-pass g c =
    pass_as _ _ _ _ _ (λ es f e v on. f v on (c.in_default.ensures.least v)) c.loop-v.invariant.pass
