use Rattle.std.proofs.Common.{subst, sym}
use Rattle.packing_terms.specs.declared.Exclusion.{Exclusion}
use Rattle.refutation_steps.specs.Places.{IsPlaced, IsSought, IsPlain}
use Rattle.refutation_steps.specs.Replays.{turned_of}
use Rattle.refutation_steps.proofs.Going.{on_ok}
use Rattle.refutation_steps.proofs.Seeking.{placed_by}
use Rattle.refutation_steps.proofs.Replayed.{plain_sought, turned_edge}
use Rattle.refutation_steps.proofs.replay.seek_both.Goals as goal

pub seek_plain-requires-2 : goal.seek_plain-requires-2
seek_plain-requires-2 c =
    let p = c.requires in
    record {
      placed = subst (λ (k : Exclusion). IsPlaced c.args.instance.now c.seek_plain.new.state k)
          (sym c.turned_exclusion-turned.ensures)
          (placed_by c.args.instance.now _ _ _ _ (turned_of c.args.e)
          (record { dims = p.dims; boxes = p.boxes; edge = turned_edge _ _ c.args.e p.edge })
          c.in_ok-seek_plain.ensures.goes);
    }

pub returns : goal.returns
returns c = on_ok c.seek_plain-2.result
    (λ s. plain_sought c.args.instance.now _ _ _ _ _ _ c.args.e c.in_ok-seek_plain.ensures
    (subst (λ (k : Exclusion). IsSought c.args.instance.now c.seek_plain.new.state c.seek_plain-2.new.state
    c.seek_plain.new.lines c.seek_plain-2.new.lines k (λ rule. IsPlain rule))
    c.turned_exclusion-turned.ensures s))
    c.seek_plain-2.ensures
