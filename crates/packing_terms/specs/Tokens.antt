-- The tokens of a refutation, as plain data. A refutation is a flat list of tokens in prefix order.
--
-- Numbers are those of the written text, so boxes, dimensions and bins are counted from 1. Of a
-- pair, u is the lower number.
use Rattle.std.specs.Prelude.{ℕ, List, Option}
use Rattle.packing_terms.specs.declared.ScaleFn.{ScaleFn}

-- Inner tokens:
--   Apart dim u v       a split: the first child has the pair apart in this dimension, the second has it joined
--   Order dim u v       a split of a pair that is apart: u before v in the first child, v before u in the second
--   Rules               a leaf: the closure has a conflict
--   TooLarge box_no dim a leaf: the box has too long a side
--   Scales tuple        a leaf: the tuple of scale functions exceeds for one container
-- Outer tokens:
--   Assign box_no       a split: the box goes into each used bin in turn, then into a new one
--   Choose box_no       a split: the box is in, then out
-- SetRefuted bin      a leaf with an inner refutation behind it: of that bin's boxes, or (without a
-- number) of the boxes that are in
--   ValueShort          a leaf: what is in and what is undecided is worth too little
--   GlobalScales tuple  a leaf: the tuple exceeds for as many containers as there are bins
pub data PlainToken : Type 0 where
  Apart : (dim u v : ℕ) → PlainToken
  Order : (dim u v : ℕ) → PlainToken
  Rules : PlainToken
  TooLarge : (box_no dim : ℕ) → PlainToken
  Scales : (tuple : List ScaleFn) → PlainToken
  Assign : (box_no : ℕ) → PlainToken
  Choose : (box_no : ℕ) → PlainToken
  SetRefuted : (bin : Option ℕ) → PlainToken
  ValueShort : PlainToken
  GlobalScales : (tuple : List ScaleFn) → PlainToken
