use Rattle.std.proofs.Common.{arith, ◌+◌, ◌<◌, ◌∙◌, refl, sym, ap, ap₂, subst, length, map, List, [], ℕ, slice_set}
use Rattle.std.proofs.Common.{get_or}
use Rattle.std.proofs.lemmas.List.{length-map}
use Rattle.packing_terms.specs.Packing.{PlainInstance, PlainBox, dims}
use Rattle.packing_terms.specs.Limits.{IsBox}
use Rattle.box_instances.specs.Plain.{plain_box}
use Rattle.box_instances.specs.Working.{IsHeld}
use Rattle.box_instances.proofs.Boxes.{box_within, box_at}
use Rattle.box_instances.proofs.Replaced.{boxes_replaced, box_there, box_named}
use Rattle.box_instances.proofs.Rows.{held_replaced}
use Rattle.box_instances.proofs.instance.Instance.set_box.Goals as goal

pub copy_from_slice-requires : goal.copy_from_slice-requires
copy_from_slice-requires c =
    let own = box_within _ _ _ c.args.at _ c.self.invariant.within.boxes.each
    (box_there _ _ c.args.at c.self.view_is c.requires.at) c.index_mut-own.ensures.value in
    let item = box_within _ _ _ c.args.box_no _ c.from.invariant.within.boxes.each
    (box_there _ _ c.args.box_no c.from.view_is c.requires.box_no) c.index-item.ensures in
    let mine = ap (λ (i : PlainInstance). dims i) c.self.view_is in
    let theirs = ap (λ (i : PlainInstance). dims i) c.from.view_is in
    ap length c.as_mut_slice.ensures.value
    ∙ (own.count ∙ (mine ∙ (c.requires.dims ∙ (sym theirs ∙ (sym item.count ∙ sym (ap length c.as_slice.ensures))))))

pub invariant_of-self : goal.invariant_of-self
invariant_of-self c =
    let item = box_within _ _ _ c.args.box_no _ c.from.invariant.within.boxes.each
    (box_there _ _ c.args.box_no c.from.view_is c.requires.box_no) c.index-item.ensures in
    let kerfs = ap (λ (i : PlainInstance). i.kerfs) c.from.view_is
    ∙ (sym c.requires.kerfs ∙ sym (ap (λ (i : PlainInstance). i.kerfs) c.self.view_is)) in
    let sizes = ap (λ (i : PlainInstance). dims i) c.from.view_is
    ∙ (sym c.requires.dims ∙ sym (ap (λ (i : PlainInstance). dims i) c.self.view_is)) in
    let good = subst (λ (k : List ℕ). IsBox (length c.self.inside.container.items) k
    (plain_box c.index-item.result.now)) kerfs
    (subst (λ (d : ℕ). IsBox d c.from.inside.kerf.items (plain_box c.index-item.result.now)) sizes item) in
    let named = box_at c.from.inside.boxes.items c.args.box_no c.index-item.result.now
    (let lt = box_there _ _ c.args.box_no c.from.view_is c.requires.box_no in
    omega (arith, lt, length-map c.from.inside.boxes.items plain_box))
    ∙ ap plain_box (sym c.index-item.ensures) in
    let row = λ (i : ℕ) (l : i < length c.self.inside.container.items).
    c.from.invariant.sides c.args.box_no i (box_there _ _ c.args.box_no c.from.view_is c.requires.box_no)
    (omega (arith, sizes, l))
    ∙ ap₂ (λ (b : PlainBox) (k : List ℕ). get_or b.sides i 0 + get_or k i 0) named kerfs in
    subst (λ (l : List PlainBox). IsHeld
    (record { container = c.self.inside.container.items; kerfs = c.self.inside.kerf.items; boxes = l })
    c.self.inside.limits
    (slice_set c.self.inside.working c.args.at (get_or c.from.inside.working c.args.box_no []))
    c.greater_sides-self-inside.result)
    (sym (boxes_replaced c.self.inside.boxes.items c.args.at c.index_mut-own.result.now c.index-item.result.now
    c.copy_from_slice.new.self
    (c.copy_from_slice.ensures.after ∙ c.as_slice.ensures)
    (c.copy_from_slice.ensures.len ∙ ap length c.as_mut_slice.ensures.value)))
    (held_replaced _ c.args.at (plain_box c.index-item.result.now) c.self.inside.limits c.self.inside.working
    (get_or c.from.inside.working c.args.box_no []) c.self.inside.longest c.greater_sides-self-inside.result c.self.invariant good
    (box_there _ _ c.args.at c.self.view_is c.requires.at) row c.greater_sides-self-inside.ensures.first
    c.greater_sides-self-inside.ensures.second)

pub returns : goal.returns
returns c =
    let few : c.args.box_no < length (map plain_box c.from.inside.boxes.items) =
    box_there _ _ c.args.box_no c.from.view_is c.requires.box_no in
    ap (λ (l : List PlainBox). let i :
    PlainInstance = record {
      container = c.self.inside.container.items;
      kerfs = c.self.inside.kerf.items;
      boxes = l;
    } in i)
    (boxes_replaced c.self.inside.boxes.items c.args.at c.index_mut-own.result.now c.index-item.result.now
    c.copy_from_slice.new.self
    (c.copy_from_slice.ensures.after ∙ c.as_slice.ensures)
    (c.copy_from_slice.ensures.len ∙ ap length c.as_mut_slice.ensures.value))
    ∙ ap₂ (λ (i : PlainInstance) (b : PlainBox). let j : PlainInstance = record i
    { boxes = slice_set i.boxes c.args.at b } in j) c.self.view_is
    (box_named _ c.from.inside.boxes.items _ c.args.box_no c.index-item.result.now c.from.view_is refl few
    c.index-item.ensures)
