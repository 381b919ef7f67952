-- Reading on behind the bytes that are held.
use Rattle.std.proofs.Common.{◌≡◌, ◌+◌, ◌≤◌, ◌∙◌, ℕ, refl, sym, ap, arith, List, [], ◌++◌, length, append_assoc}
use Rattle.std.proofs.Common.{append-nil, length-append, Option, Some, None, Bool, true, false}
use Rattle.std.specs.Bool.{if◌then◌else◌}
use Rattle.pack_streams.specs.Faults.{FaultCount, Stays}
use Rattle.pack_streams.specs.Moves.{Consumed}
use Rattle.pack_streams.proofs.Faults.{stays_here}
use Rattle.pack_streams.proofs.Runs.{gives_more}

-- what was read behind the bytes that were held
pub record IsReadBehind (old now : Option (List ℕ)) (before after : FaultCount) (limit : ℕ) (held bytes : List ℕ) :
    Type 0 where
  pub more : List ℕ
  pub are : bytes ≡ held ++ more
  pub gives : Consumed old now more
  pub within : length bytes ≤ limit
  pub stays : Stays before after

pub read_none : (old : Option (List ℕ)) (before : FaultCount) (limit : ℕ) (held : List ℕ) → length held ≤ limit
    → IsReadBehind old old before before limit held held
read_none old before limit held few = record {
  more = [];
  are = sym (append-nil held);
  gives = none old;
  within = few;
  stays = stays_here before;
}
  where
    none : (o : Option (List ℕ)) → Consumed o o []
    none None = refl
    none (Some xs) = refl

-- the bytes behind them, and how many all are
pub more_read : (old now later : Option (List ℕ)) (before after : FaultCount) (limit : ℕ) (held bytes piece : List ℕ)
    → IsReadBehind old now before after limit held bytes → Consumed now later piece → length piece ≤ 4096
    → (more : List ℕ) × Consumed old later more × (bytes ++ piece ≡ held ++ more)
    × (length held + length more ≡ length (bytes ++ piece)) × (length held + length more ≤ limit + 4096)
more_read old now later before after limit held bytes piece h gives few =
    let all : bytes ++ piece ≡ held ++ (h.more ++ piece) =
    ap (λ xs. xs ++ piece) h.are ∙ append_assoc held h.more piece in
    let l = length-append held (h.more ++ piece) in
    let m = length-append bytes piece in
    let e : length (bytes ++ piece) ≡ length (held ++ (h.more ++ piece)) = ap length all in
    let w = h.within in (
      h.more ++ piece,
      gives_more old now later h.more piece h.gives gives,
      all,
      omega (arith, l, e),
      omega (arith, l, e, m, w, few),
    )

-- a vector to which a piece was added, or not
pub at_most : (added : Bool) (now old piece : ℕ) → now ≡ (if added then old + piece else old) → now ≤ old + piece
at_most true now old piece e = omega (arith, e)
at_most false now old piece e = omega (arith, e)
