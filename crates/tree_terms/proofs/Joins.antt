-- Verdicts are a monoid under joining, and the outcome of a split joins those of its children.
use Rattle.std.proofs.Common.{◌≡◌, ℕ, zero, suc, ◌+◌, ◌≤◌, refl, ap, ap₂, ◌∙◌, arith, List, [], ◌∷◌, map, append_assoc}
use Rattle.std.proofs.Common.{append-nil, add_assoc, add-zero}
use Rattle.std.specs.List.{range_with_len}
use Rattle.packing_terms.specs.Tokens.{PlainToken}
use Rattle.tree_terms.specs.Trees.{SearchTree, Split, Verdict, Yes, No, no_tokens, join, join_from, outcome, count_of}
use Rattle.tree_terms.specs.Joined.{join_all}

pub join_assoc : (u v w : Verdict) → join (join u v) w ≡ join u (join v w)
join_assoc (Yes ns c) v w = refl
join_assoc (No ts c) (Yes ns d) w = refl
join_assoc (No ts c) (No us d) (Yes ns e) = ap (λ k. Yes ns k) (add_assoc c d e)
join_assoc (No ts c) (No us d) (No ws e) = ap₂ No (append_assoc ts us ws) (add_assoc c d e)

pub join_nothing : (v : Verdict) → join v no_tokens ≡ v
join_nothing (Yes ns c) = refl
join_nothing (No ts c) = ap₂ No (append-nil ts) (add-zero c)

pub nothing_join : (v : Verdict) → join no_tokens v ≡ v
nothing_join (Yes ns c) = ap (λ k. Yes ns k) (omega arith)
nothing_join (No ts c) = ap (λ k. No ts k) (omega arith)

-- reading no further than the first yes loses nothing
pub join_next : (k more : ℕ) (f : ℕ → Verdict) → join_from k (suc more) f ≡ join (f k) (join_from (k + 1) more f)
join_next k more f = go (f k)
  where
    go : (v : Verdict) → elim v [ Yes ns c ↦ Yes ns c | No ts c ↦ join (No ts c) (join_from (k + 1) more f) ]
        ≡ join v (join_from (k + 1) more f)
    go (Yes ns c) = refl
    go (No ts c) = refl

pub join_from_all : (k more : ℕ) (f : ℕ → Verdict) → join_from k more f ≡ join_all (map f (range_with_len k more))
join_from_all k zero f = refl
join_from_all k (suc more) f = join_next k more f ∙ ap (join (f k)) (join_from_all (k + 1) more f)

pub split_joins : (token : PlainToken) (own n : ℕ) (child : ℕ → SearchTree)
    → outcome (Split token own n child)
    ≡ join (No (token ∷ []) own) (join_all (map (λ k. outcome (child k)) (range_with_len 0 n)))
split_joins token own n child = ap (join (No (token ∷ []) own)) (join_from_all 0 n (λ k. outcome (child k)))

-- joining counts, and never less than its left side
pub count_join_no : (ts : List PlainToken) (c : ℕ) (v : Verdict) → count_of (join (No ts c) v) ≡ c + count_of v
count_join_no ts c (Yes ns d) = refl
count_join_no ts c (No us d) = refl

-- what is joined counts no less than its left side
pub count_left : (v w : Verdict) → count_of v ≤ count_of (join v w)
count_left (Yes ns c) w = omega arith
count_left (No ts c) w = let e = count_join_no ts c w in omega (arith, e)
