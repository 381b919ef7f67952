use Rattle.std.proofs.Common.{◌+◌, arith, drop, get_or}
use Rattle.conservative_scales.proofs.Shares.{held_none}
use Rattle.conservative_scales.proofs.Trying.{tried_within, some_tried, rows_among}
use Rattle.conservative_scales.proofs.fastest.search_fastest.Goals as goal

pub returns-then-not-may_exceed-clause-found : goal.returns-then-not-may_exceed-clause-found
returns-then-not-may_exceed-clause-found c =
    held_none c.args.instance.now c.args.copies _ (λ v. get_or c.args.images.now (c.args.at + v) 0) c.args.whole_product
    c.requires.limits c.requires.fit c.requires.there c.requires.partial c.if-not-may_exceed.ensures c.args.left

pub try_rows-requires-clause-rows_room : goal.try_rows-requires-clause-rows_room
try_rows-requires-clause-rows_room c = rw (c.need_rows.ensures.length, c.need_rows.ensures.places) c.requires.rows_room

pub try_rows-requires-clause-most : goal.try_rows-requires-clause-most
try_rows-requires-clause-most c =
    let all = c.need_rows.ensures.all in
    let few = all.few in
    let most = some_tried c.args.instance.now c.need_rows.new.listed_count c.args.left c.most_tried-most.result
    c.need_rows.new.functions all.all few c.most_tried-most.ensures.none c.most_tried-most.ensures.some in
    omega (arith, most, few)

pub try_rows-requires-clause-rows : goal.try_rows-requires-clause-rows
try_rows-requires-clause-rows c =
    let all = c.need_rows.ensures.all in
    rows_among c.args.instance.now c.most_tried-most.result c.need_rows.new.listed_count c.need_rows.new.functions
    c.need_rows.new.made
    (some_tried c.args.instance.now c.need_rows.new.listed_count c.args.left c.most_tried-most.result
    c.need_rows.new.functions all.all all.few c.most_tried-most.ensures.none c.most_tried-most.ensures.some) all.rows

pub returns-clause-found : goal.returns-clause-found
returns-clause-found c =
    rw (tried_within c.args.instance.now c.need_rows.new.listed_count c.args.left c.most_tried-most.result
    c.need_rows.new.functions (drop 1 c.args.tuple.now) c.need_rows.ensures.all.all
    c.most_tried-most.ensures.none c.most_tried-most.ensures.some) c.try_rows.ensures.found
