use Rattle.std.proofs.Common.{◌-◌, ◌+◌, ◌*◌, ◌<◌, arith, refl, ap, ◌∙◌, length, length-set, get_or}
use Rattle.packing_terms.specs.Packing.{box_count}
use Rattle.packing_terms.specs.declared.ScaleFn.TheVariants.{Id}
use Rattle.conservative_scales.proofs.Searching.{at_written, legal_written, partial_written, few_left, kept_written}
use Rattle.conservative_scales.proofs.Searching.{open_found, open_next, id_found, id_none, whole_least}
use Rattle.conservative_scales.proofs.PartialProducts.{few_small, few_whole, scaled_small, rows_less}
use Rattle.conservative_scales.proofs.search.+search.Goals as goal

pub scale-requires-clause-small : goal.scale-requires-clause-small
scale-requires-clause-small t c =
    few_small c.args.instance.now c.args.dim _ (λ v. get_or c.args.images.now (c.args.at + v) 0) _ c.requires.partial
    (few_left c.args.instance.now c.args.dim c.args.tuple.now c.requires.limits c.requires.count (omega arith))

pub scale-requires-in-Some-clause-small : goal.scale-requires-in-Some-clause-small
scale-requires-in-Some-clause-small t c v l =
    rw (c.loop-next.invariant.products (c.args.at + v) (omega (arith, l)))
    (few_small c.args.instance.now c.args.dim _ (λ u. get_or c.args.images.now (c.args.at + u) 0) _ c.requires.partial
    (few_left c.args.instance.now c.args.dim c.args.tuple.now c.requires.limits c.requires.count (omega arith)) v l)

pub overflow_mul-same : goal.overflow_mul-same
overflow_mul-same t c =
    let w = few_whole c.args.instance.now c.args.dim _ (λ v. get_or c.args.images.now (c.args.at + v) 0) _
    c.requires.partial
    (few_left c.args.instance.now c.args.dim c.args.tuple.now c.requires.limits c.requires.count (omega arith)) in
    omega (arith, scaled_small _ _ w c.whole_of.ensures.limit)

pub overflow_mul-scaled : goal.overflow_mul-scaled
overflow_mul-scaled t c =
    let w = few_whole c.args.instance.now c.args.dim _ (λ v. get_or c.args.images.now (c.args.at + v) 0) _
    c.requires.partial
    (few_left c.args.instance.now c.args.dim c.args.tuple.now c.requires.limits c.requires.count (omega arith)) in
    omega (arith, scaled_small _ _ w c.whole_of-in-Some.ensures.limit)

pub search-requires : goal.search-requires
search-requires t c =
    let k : c.args.dim - 1 < length c.args.tuple.now = omega arith in (
      omega (arith, c.decreases),
      (
        c.requires.limits,
        (
          c.requires.fit,
          (
            c.requires.few,
            (
              c.requires.rows_room,
              (
                c.requires.rows,
                (
                  rw length-set c.requires.count,
                  (
                    omega arith,
                    (
                      omega arith,
                      (
                        c.requires.shares_room,
                        (
                          c.requires.shares,
                          (
                            (let r = rows_less c.args.dim (c.args.dim - 1) (box_count c.args.instance.now) (omega arith) in
                                omega (arith, r, c.scale.ensures.length, c.len.ensures.value, c.requires.room)),
                            (
                              legal_written c.args.instance.now 0 c.args.dim (c.args.dim - 1) 0 _ c.args.tuple.now Id
                                  (omega arith) k refl tt c.requires.legal,
                              partial_written c.args.instance.now 0 c.args.dim (c.args.dim - 1) 0 _ c.args.tuple.now Id
                                  (omega arith) k refl
                                  (λ v. get_or c.args.images.now (c.args.at + v) 0)
                                  (λ v. get_or c.scale.new.images (c.args.at + c.len.result + v) 0) _ _
                                  c.requires.limits c.requires.fit (omega arith) tt
                                  (λ v l. rw c.len.ensures.value (c.scale.ensures.scaled v l))
                                  (ap (λ w. c.args.whole_product * w) c.whole_of.ensures.value) c.requires.partial,
                            ),
                          ),
                        ),
                      ),
                    ),
                  ),
                ),
              ),
            ),
          ),
        ),
      ),
    )

pub returns-then-search-clause-found : goal.returns-then-search-clause-found
returns-then-search-clause-found t c =
    let k : c.args.dim - 1 < length c.args.tuple.now = omega arith in
    let e = at_written c.args.instance.now 0 c.args.dim (c.args.dim - 1) 0 _ c.args.tuple.now Id (omega arith) k refl in
    id_found c.args.instance.now c.args.copies c.args.dim (c.args.dim - 1) c.args.left _ _ (omega arith)
    (rw e at c.if-search.ensures.found)

pub returns-then-search-clause-kept : goal.returns-then-search-clause-kept
returns-then-search-clause-kept t c =
    let k : c.args.dim - 1 < length c.args.tuple.now = omega arith in
    kept_written c.args.instance.now 0 c.args.dim (c.args.dim - 1) 0 _ c.args.tuple.now Id (omega arith) k refl _
    c.if-search.ensures.kept

pub returns-then-left-eq0-clause-kept : goal.returns-then-left-eq0-clause-kept
returns-then-left-eq0-clause-kept t c =
    let k : c.args.dim - 1 < length c.args.tuple.now = omega arith in
    kept_written c.args.instance.now 0 c.args.dim (c.args.dim - 1) 0 _ c.args.tuple.now Id (omega arith) k refl _
    c.if-search.ensures.kept

pub next_function-next-requires-clause-whole : goal.next_function-next-requires-clause-whole
next_function-next-requires-clause-whole t c =
    whole_least c.args.instance.now (c.args.dim - 1) c.requires.limits c.requires.fit (omega arith)

pub loop-next-init : goal.loop-next-init
loop-next-init t c =
    let k : c.args.dim - 1 < length c.args.tuple.now = omega arith in
    let e = at_written c.args.instance.now 0 c.args.dim (c.args.dim - 1) 0 _ c.args.tuple.now Id (omega arith) k refl in
    record {
      open_at = record {
        kept = kept_written c.args.instance.now 0 c.args.dim (c.args.dim - 1) 0 _ c.args.tuple.now Id (omega arith) k
            refl _ c.if-search.ensures.kept;
        same = id_none c.args.instance.now c.args.copies c.args.dim (c.args.dim - 1) c.args.left _ _ (omega arith)
            (omega arith)
            c.next_function-next.ensures.next (rw e at c.if-search.ensures.found);
        legal = c.next_function-next.ensures.legal;
      };
      rows = c.if-search.ensures.rows;
      functions = c.if-search.ensures.functions;
      made = c.if-search.ensures.made;
      length = c.if-search.ensures.length ∙ c.scale.ensures.length;
      products = λ m l. c.if-search.ensures.products m (omega (arith, l)) ∙ c.scale.ensures.kept m l;
    }

pub search-requires-in-Some : goal.search-requires-in-Some
search-requires-in-Some t c =
    let k : c.args.dim - 1 < length c.loop-next.tuple =
    omega (arith, length-set c.args.tuple.now (c.args.dim - 1) Id) in (
      omega (arith, c.decreases),
      (
        c.requires.limits,
        (
          c.requires.fit,
          (
            c.requires.few,
            (
              rw (c.loop-next.invariant.functions, c.loop-next.invariant.made) c.requires.rows_room,
              (
                c.loop-next.invariant.rows,
                (
                  length-set c.loop-next.tuple (c.args.dim - 1) c.in-Some.f
                      ∙ omega (arith, length-set c.args.tuple.now (c.args.dim - 1) Id),
                  (
                    omega arith,
                    (
                      omega arith,
                      (
                        c.requires.shares_room,
                        (
                          c.requires.shares,
                          (
                            (let r = rows_less c.args.dim (c.args.dim - 1) (box_count c.args.instance.now) (omega arith) in
                                omega (
                                  arith,
                                  r,
                                  c.scale-in-Some.ensures.length,
                                  c.loop-next.invariant.length,
                                  c.len.ensures.value,
                                  c.requires.room,
                                )),
                            (
                              legal_written c.args.instance.now 0 c.args.dim (c.args.dim - 1) 0 _ c.loop-next.tuple c.in-Some.f
                                  (omega arith) k c.loop-next.invariant.open_at.kept
                                  (rw c.in-Some.is at c.loop-next.invariant.open_at.legal) c.requires.legal,
                              partial_written c.args.instance.now 0 c.args.dim (c.args.dim - 1) 0 _ c.loop-next.tuple
                                  c.in-Some.f (omega arith) k c.loop-next.invariant.open_at.kept
                                  (λ v. get_or c.args.images.now (c.args.at + v) 0)
                                  (λ v. get_or c.scale-in-Some.new.images (c.args.at + c.len.result + v) 0) _ _
                                  c.requires.limits c.requires.fit (omega arith)
                                  (rw c.in-Some.is at c.loop-next.invariant.open_at.legal)
                                  (λ v l. rw (
                                    c.len.ensures.value,
                                    ←
                                        c.loop-next.invariant.products (c.args.at + v) (omega (arith, l)),
                                  )
                                  (c.scale-in-Some.ensures.scaled v l))
                                  (ap (λ w. c.args.whole_product * w) c.whole_of-in-Some.ensures.value) c.requires.partial,
                            ),
                          ),
                        ),
                      ),
                    ),
                  ),
                ),
              ),
            ),
          ),
        ),
      ),
    )

pub returns-then-search-2-clause-found : goal.returns-then-search-2-clause-found
returns-then-search-2-clause-found t c =
    let k : c.args.dim - 1 < length c.loop-next.tuple =
    omega (arith, length-set c.args.tuple.now (c.args.dim - 1) Id) in
    open_found c.args.instance.now c.args.copies c.args.dim (c.args.dim - 1) c.args.left _ c.loop-next.tuple c.in-Some.f
    (omega arith) k c.loop-next.invariant.open_at.kept _
    (rw c.in-Some.is at c.loop-next.invariant.open_at) c.if-search-2.ensures.found

pub returns-then-search-2-clause-kept : goal.returns-then-search-2-clause-kept
returns-then-search-2-clause-kept t c =
    let k : c.args.dim - 1 < length c.loop-next.tuple =
    omega (arith, length-set c.args.tuple.now (c.args.dim - 1) Id) in
    kept_written c.args.instance.now 0 c.args.dim (c.args.dim - 1) 0 _ c.loop-next.tuple c.in-Some.f (omega arith) k
    c.loop-next.invariant.open_at.kept _ c.if-search-2.ensures.kept

pub loop-next-preserved : goal.loop-next-preserved
loop-next-preserved t c =
    let k : c.args.dim - 1 < length c.loop-next.tuple =
    omega (arith, length-set c.args.tuple.now (c.args.dim - 1) Id) in
    record {
      open_at = open_next c.args.instance.now c.args.copies c.args.dim (c.args.dim - 1) c.args.left _ c.loop-next.tuple
          c.in-Some.f (omega arith) k c.loop-next.invariant.open_at.kept _ _
          (rw c.in-Some.is at c.loop-next.invariant.open_at) c.if-search-2.ensures.found
          c.next_function-next-in-Some.ensures.next c.next_function-next-in-Some.ensures.legal
          c.if-search-2.ensures.kept;
      rows = c.if-search-2.ensures.rows;
      functions = c.if-search-2.ensures.functions ∙ c.loop-next.invariant.functions;
      made = c.if-search-2.ensures.made ∙ c.loop-next.invariant.made;
      length = c.if-search-2.ensures.length ∙ (c.scale-in-Some.ensures.length ∙ c.loop-next.invariant.length);
      products = λ m l. c.if-search-2.ensures.products m (omega (arith, l))
          ∙ (c.scale-in-Some.ensures.kept m l ∙ c.loop-next.invariant.products m l);
    }

pub returns-then-search-clause-products : goal.returns-then-search-clause-products
returns-then-search-clause-products t c m l =
    c.if-search.ensures.products m (omega (arith, l)) ∙ c.scale.ensures.kept m l

pub returns-then-search-2-clause-products : goal.returns-then-search-2-clause-products
returns-then-search-2-clause-products t c m l =
    c.if-search-2.ensures.products m (omega (arith, l))
    ∙ (c.scale-in-Some.ensures.kept m l ∙ c.loop-next.invariant.products m l)
