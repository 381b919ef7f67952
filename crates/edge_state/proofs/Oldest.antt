-- The oldest exclusions of a list that grows.
use Rattle.std.proofs.Common.{◌≡◌, ℕ, zero, suc, ◌-◌, ◌≤◌, refl, sym, ◌∙◌, arith, List, [], ◌∷◌, ◌++◌, length, drop}
use Rattle.std.proofs.lemmas.List.{length-append, length-drop}
use Rattle.packing_terms.specs.declared.Exclusion.{Exclusion}
use Rattle.edge_state.specs.Edges.{oldest}

pub oldest_more : (m : ℕ) (more es : List Exclusion) → m ≤ length es → oldest m (more ++ es) ≡ oldest m es
oldest_more m [] es h = refl
oldest_more m (e ∷ more) es h =
    let k : length (e ∷ (more ++ es)) - m ≡ suc (length (more ++ es) - m) = omega (arith, h, length-append more es) in
    rw k (oldest_more m more es h)

pub oldest_grown : (more old new : List Exclusion) (m : ℕ) → new ≡ more ++ old → m ≤ length old
    → oldest m new ≡ oldest m old
oldest_grown more old new m e h = rw e (oldest_more m more old h)

pub oldest_all : (es : List Exclusion) (m : ℕ) → m ≡ length es → oldest m es ≡ es
oldest_all es m e = let z : length es - m ≡ 0 = omega (arith, e) in rw z refl

pub oldest_none : (es : List Exclusion) (m : ℕ) → m ≡ 0 → oldest m es ≡ []
oldest_none es m e = all es (length es - m) (omega (arith, e))
  where
    all : (fs : List Exclusion) (k : ℕ) → k ≡ length fs → drop k fs ≡ []
    all [] zero f = refl
    all [] (suc k) f = refl
    all (x ∷ fs) zero f = absurd (omega (arith, f))
    all (x ∷ fs) (suc k) f = all fs k (omega (arith, f))

pub oldest_count : (m : ℕ) (es : List Exclusion) → m ≤ length es → length (oldest m es) ≡ m
oldest_count m es h = let k = length-drop (length es - m) es in omega (arith, h, k)

-- the oldest of the oldest
pub oldest_twice : (k m : ℕ) (es : List Exclusion) → k ≤ m → m ≤ length es → oldest k (oldest m es) ≡ oldest k es
oldest_twice k m es below h = go (length es - m) es (omega (arith, h))
  where
    go : (j : ℕ) (fs : List Exclusion) → k ≤ length fs - j → oldest k (drop j fs) ≡ oldest k fs
    go zero fs l = refl
    go (suc j) [] l = refl
    go (suc j) (f ∷ fs) l = go j fs (omega (arith, l)) ∙ sym (oldest_more k (f ∷ []) fs (omega (arith, l)))
