-- Tokens fed one by one to a list of open nodes, the next one first: an accepted leaf takes the
-- first node away, an accepted split puts its children in its place. A refutation is whole where no
-- node is left.
use Rattle.std.specs.Prelude.{◌≡◌, List, [], ◌∷◌, ◌++◌}
use Rattle.packing_terms.specs.declared.Rel.TheVariants.{Overlap, Before, After}
use Rattle.packing_terms.specs.declared.Exclusion.{Exclusion}
use Rattle.packing_terms.specs.Packing.{PlainInstance}
use Rattle.packing_terms.specs.Exclusions.{excludes}
use Rattle.packing_terms.specs.Closure.{HasConflict}
use Rattle.packing_terms.specs.Scales.{Exceeds}
use Rattle.packing_terms.specs.Tokens.{PlainToken}
use Rattle.packing_terms.specs.Tokens.PlainToken.{Apart, Order, Rules, TooLarge, Scales}
use Rattle.packing_terms.specs.Refutation.{exclusion_in_text, IsTooLarge, MaySplitApart, MaySplitOrder}

-- The tokens are accepted one by one from the first nodes on, and leave the last ones. `Accepts` is
-- what a token asks of its node, `children` the nodes that it puts in its place.
abbrev pub FeedsBy : {Node : Type 0} → (Node → PlainToken → Type 0) → (Node → PlainToken → List Node) → List Node
    → List PlainToken → List Node → Type 0
FeedsBy Accepts children nodes [] left = nodes ≡ left
FeedsBy Accepts children [] (t ∷ ts) left = ⊥
FeedsBy Accepts children (n ∷ nodes) (t ∷ ts) left =
    Accepts n t × FeedsBy Accepts children (children n t ++ nodes) ts left

-- what an inner token asks of a node with these exclusions
abbrev pub Accepts : PlainInstance → List Exclusion → PlainToken → Type 0
Accepts instance es Rules = HasConflict instance (excludes es)
Accepts instance es (TooLarge v i) = IsTooLarge instance v i
Accepts instance es (Scales fs) = Exceeds instance fs 1
Accepts instance es (Apart i u v) = MaySplitApart instance es i u v
Accepts instance es (Order i u v) = MaySplitOrder instance es i u v
Accepts instance es _ = ⊥

-- the children of a node by an inner token
abbrev pub children : List Exclusion → PlainToken → List (List Exclusion)
children es (Apart i u v) = (exclusion_in_text i u v Overlap ∷ es)
    ∷ (exclusion_in_text i u v Before ∷ exclusion_in_text i u v After ∷ es) ∷ []
children es (Order i u v) = (exclusion_in_text i u v After ∷ es) ∷ (exclusion_in_text i u v Before ∷ es) ∷ []
children es _ = []

-- inner tokens, fed to nodes of the inner tree of one instance
abbrev pub Feeds : PlainInstance → List (List Exclusion) → List PlainToken → List (List Exclusion) → Type 0
Feeds instance nodes tokens left = FeedsBy (Accepts instance) children nodes tokens left
