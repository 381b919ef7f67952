-- States of equal sizes.
use Rattle.std.proofs.Common.{◌≡◌, sym, ap, ◌∙◌, List}
use Rattle.packing_terms.specs.declared.Exclusion.{Exclusion}
use Rattle.edge_state.specs.Edges.{PlainEdges}

-- another list of exclusions changes no size
pub sizes_of : (old new : PlainEdges) (es : List Exclusion) → new ≡ record old { trail = es }
    → new ≡ record old { trail = new.trail }
sizes_of old new es e = e ∙ ap (λ (xs : List Exclusion). record old { trail = xs })
    (sym (ap (λ (s : PlainEdges). s.trail) e))

pub same_sizes : (a b c : PlainEdges) → b ≡ record a { trail = b.trail } → c ≡ record b { trail = c.trail }
    → c ≡ record a { trail = c.trail }
same_sizes a b c e f = f ∙ ap (λ (s : PlainEdges). record s { trail = c.trail }) e
