use Rattle.std.proofs.Common.{refl}
use Rattle.class_search.specs.Settling.{pair_at}
use Rattle.class_search.proofs.Walking.{pairs_among}
use Rattle.class_search.proofs.visit.next_kind.Goals as goal

pub first_unsettled-requires-clause-pairs : goal.first_unsettled-requires-clause-pairs
first_unsettled-requires-clause-pairs c =
    let search = c.args.search.now in
    pairs_among search.instance.now _ search.pairs.now c.requires.boxes c.requires.pairs

pub of_pair-split-requires-clause-rising : goal.of_pair-split-requires-clause-rising
of_pair-split-requires-clause-rising c =
    let search = c.args.search.now in
    let among = pairs_among search.instance.now _ search.pairs.now c.requires.boxes c.requires.pairs in
    (among c.in-Some.rank c.in-Some.ensures.0).0

pub of_pair-split-requires-clause-there : goal.of_pair-split-requires-clause-there
of_pair-split-requires-clause-there c =
    let search = c.args.search.now in
    let among = pairs_among search.instance.now _ search.pairs.now c.requires.boxes c.requires.pairs in
    (among c.in-Some.rank c.in-Some.ensures.0).1

pub of_pair-split-requires-clause-divided : goal.of_pair-split-requires-clause-divided
of_pair-split-requires-clause-divided c =
    let search = c.args.search.now in
    let among = pairs_among search.instance.now _ search.pairs.now refl c.requires.pairs in
    let r = among c.in-Some.rank c.in-Some.ensures.0 in
    let unsettled = rw c.requires.dims at c.in-Some.ensures.2 in
    rw c.requires.dims (c.requires.divided (pair_at search.pairs.now c.in-Some.rank) r.0 r.1 unsettled)
