-- Behind the result line only the words of the lines that aren't blank count: a bad byte is refused everywhere.
use Rattle.std.proofs.Common.{◌≡◌, ℕ, suc, pred, ◌+◌, ◌*◌, ◌&&◌, ◌==◌, ◌++◌, codes, refl, sym, ap, subst, ◌∙◌, Bool}
use Rattle.std.proofs.Common.{true, false, cond, List, [], ◌∷◌, length, Option, Some, None, Result, Ok}
use Rattle.std.proofs.Common.{Err}
use Rattle.std.specs.Prelude.{nat_le, nat_lt}
use Rattle.std.specs.List.{list_any, list_all}
use Rattle.std.proofs.lemmas.Bool.{true≢false}
use Rattle.text_terms.specs.Lines.{line_of, content, is_bad, words_of}
use Rattle.packing_terms.specs.Results.{◌>>=◌}
use Rattle.text_terms.specs.Form.{AreClean, filled_lines}
use Rattle.text_terms.proofs.FormRead.{filled_with}
use Rattle.text_terms.proofs.Good.{bind_ok}
use Rattle.text_terms.proofs.FormLines.{clean_from}
use Rattle.packing_terms.specs.Packing.{PlainInstance, dims, box_count, container_side, side}
use Rattle.packing_terms.specs.Tokens.{PlainToken}
use Rattle.packing_terms.specs.Tokens.PlainToken.{Apart, Order, Rules, TooLarge, Scales, Assign, Choose, SetRefuted}
use Rattle.packing_terms.specs.Tokens.PlainToken.{ValueShort, GlobalScales}
use Rattle.packing_terms.specs.OuterRefutation.{Choice as BoxChoice}
use Rattle.packing_terms.specs.OuterFeeding.{OpenNode}
use Rattle.verdict_terms.specs.BoundedRefutation.{BoundedToken}
use Rattle.verdict_terms.specs.BoundedJudging.{bounded_after}
use Rattle.verdict_terms.specs.BoundedLines.{bounded_token_of}
use Rattle.verdict_terms.specs.FamilyRefutation.{FamilyToken, FamilyNode, Free}
use Rattle.verdict_terms.specs.FamilyChecking.{families_after}
use Rattle.verdict_terms.specs.FamilyLines.{family_token_of}
use Rattle.verdict_terms.specs.Trees.{Refuted, Tree, begun, is_whole, tree_dims, tree_after}
use Rattle.text_terms.specs.declared.claim.Claim.{Claim}
use Rattle.text_terms.specs.declared.claim.Claim.TheVariants.{Fitting, NotFitting, LeastHeight, HeightBetween}
use Rattle.text_terms.specs.declared.claim.Claim.TheVariants.{NoHeight, LeastBins, BinsBetween, NoBins}
use Rattle.text_terms.specs.declared.claim.Claim.TheVariants.{GreatestValue, ValueBetween}
use Rattle.verdict_terms.specs.Judging.{names_box}
use Rattle.verdict_terms.specs.Numbers.{require, numbers_line, coordinates}
use Rattle.text_terms.specs.TokenLines.{token_of}
use Rattle.verdict_terms.specs.declared.heading.Heading.{Heading}
use Rattle.verdict_terms.specs.declared.heading.Heading.TheVariants.{Answer, Reduced, Bounded}
use Rattle.verdict_terms.specs.declared.reason.Reason.{Reason}
use Rattle.verdict_terms.specs.Reasons.{form, range, after}
use Rattle.verdict_terms.specs.declared.reason.Reason.TheVariants.{TooShort}
use Rattle.verdict_terms.specs.Stages.{Stage, words_line, share_line, take_box_line, exceeding_token, refused_by}
use Rattle.verdict_terms.specs.Stages.{places_reason, bins_reason, taken_reason, refutation_goal, is_word, tree_token, coded}
use Rattle.verdict_terms.specs.Stages.{late_line, grown_tree, filled_line, stage_after, proving, placed, value_stage}
use Rattle.verdict_terms.specs.Stages.{bounding_end, bounding_token, gathering_end, gathering_token}
use Rattle.verdict_terms.specs.Stages.Stage.{Beginning, Reading, Placing, Sharing, Taking, Proving, Refuting, Exceeding}
use Rattle.verdict_terms.specs.Stages.Stage.{ProvingFamilies, Bounding, Gathering}
use Rattle.verdict_terms.specs.Stages.Stage.{Ending, Ended}
use Rattle.verdict_terms.specs.Documents.{document_at_line, document_at_end, read_document_lines}
use Rattle.verdict_terms.proofs.Passed.{require_ok, refused_ok, ok_is}

-- behind the result line
abbrev pub IsLater : Stage → Type 0
IsLater (Beginning heading) = ⊥
IsLater (Reading heading job parts) = ⊥
IsLater _ = Unit {0}

-- the claim, where `end` was read
abbrev pub claim_read : Stage → Result Claim Reason
claim_read (Ended claim) = Ok claim
claim_read _ = Err TooShort

-- the claim that lines of these words give
abbrev pub read_words : Stage → List (List (List ℕ)) → Result Claim Reason
read_words stage [] = claim_read stage
read_words stage (words ∷ lines) = words_line stage words >>= λ next. read_words next lines

pub end_read : (stage : Stage) (n : ℕ) (claim : Claim) → document_at_end stage n ≡ Ok claim
    → claim_read stage ≡ Ok claim
end_read (Ended c) n claim e = let same : c ≡ claim = cc (e) in ap Ok same
end_read (Beginning h) n claim e = absurd (cc (e))
end_read (Reading h j p) n claim e = absurd (cc (e))
end_read (Placing h i c r p) n claim e = absurd (cc (e))
end_read (Sharing i c k b p) n claim e = absurd (cc (e))
end_read (Taking h i c v t p) n claim e = absurd (cc (e))
end_read (Proving c r) n claim e = absurd (cc (e))
end_read (ProvingFamilies i c) n claim e = absurd (cc (e))
end_read (Refuting c t) n claim e = absurd (cc (e))
end_read (Bounding i c y ns) n claim e = absurd (cc (e))
end_read (Gathering i c ns) n claim e = absurd (cc (e))
end_read (Exceeding i c m) n claim e = absurd (cc (e))
end_read (Ending c b) n claim e = absurd (cc (e))

pub line_ok : {A : Type 0} (n : ℕ) (r : Result A Reason) (x : A) → document_at_line n r ≡ Ok x → r ≡ Ok x
line_ok n (Ok y) x e = let same : y ≡ x = cc (e) in ap Ok same
line_ok n (Err reason) x e = absurd (cc (e))

pub record Stepped (stage : Stage) (n : ℕ) (line : List ℕ) (lines : List (List ℕ)) (claim : Claim) : Type 0 where
  pub next : Stage
  pub step : stage_after stage (line_of line) ≡ Ok next
  pub rest : read_document_lines next (n + 1) lines ≡ Ok claim

pub stepped : (stage : Stage) (n : ℕ) (line : List ℕ) (lines : List (List ℕ)) (claim : Claim)
    → read_document_lines stage n (line ∷ lines) ≡ Ok claim
    → Stepped stage n line lines claim
stepped stage n line lines claim e =
    let b = bind_ok (document_at_line (n + 1) (stage_after stage (line_of line)))
    (λ next. read_document_lines next (n + 1) lines) claim e in
    record { next = b.0; step = line_ok (n + 1) (stage_after stage (line_of line)) b.0 b.1; rest = b.2 }

-- a line of a later stage that isn't blank has no bad byte, and its words are taken
filled_ok : (stage next : Stage) (b : Bool) (c : ℕ) (words : List (List ℕ)) → IsLater stage
    → filled_line stage (record { bad = b; count = c; words = words }) ≡ Ok next
    → (b ≡ false) × (words_line stage words ≡ Ok next)
filled_ok (Beginning h) next b c words later e = absurd later
filled_ok (Reading h j p) next b c words later e = absurd later
filled_ok (Ended x) next b c words later e = absurd (cc (e))
filled_ok (Placing h i x r p) next false c words later e = (refl, e)
filled_ok (Sharing i x k s p) next false c words later e = (refl, e)
filled_ok (Taking h i x v t p) next false c words later e = (refl, e)
filled_ok (Proving x r) next false c words later e = (refl, e)
filled_ok (ProvingFamilies i x) next false c words later e = (refl, e)
filled_ok (Refuting x t) next false c words later e = (refl, e)
filled_ok (Bounding i x y ns) next false c words later e = (refl, e)
filled_ok (Gathering i x ns) next false c words later e = (refl, e)
filled_ok (Exceeding i x m) next false c words later e = (refl, e)
filled_ok (Ending x s) next false c words later e = (refl, e)
filled_ok (Placing h i x r p) next true c words later e = absurd (cc (e))
filled_ok (Sharing i x k s p) next true c words later e = absurd (cc (e))
filled_ok (Taking h i x v t p) next true c words later e = absurd (cc (e))
filled_ok (Proving x r) next true c words later e = absurd (cc (e))
filled_ok (ProvingFamilies i x) next true c words later e = absurd (cc (e))
filled_ok (Refuting x t) next true c words later e = absurd (cc (e))
filled_ok (Bounding i x y ns) next true c words later e = absurd (cc (e))
filled_ok (Gathering i x ns) next true c words later e = absurd (cc (e))
filled_ok (Exceeding i x m) next true c words later e = absurd (cc (e))
filled_ok (Ending x s) next true c words later e = absurd (cc (e))

-- ---- a later stage is followed by later ones

-- whatever stage a result gives is a later one
abbrev GivesLater : Result Stage Reason → Type 0
GivesLater r = (next : Stage) → r ≡ Ok next → IsLater next

gives : (stage : Stage) → IsLater stage → GivesLater (Ok stage)
gives stage later next e = subst IsLater (ok_is stage next e) later

refuses : (reason : Reason) → GivesLater (Err reason)
refuses reason next e = absurd (cc (e))

bind_gives : {B : Type 0} (r : Result B Reason) (f : B → Result Stage Reason) → ((y : B) → GivesLater (f y))
    → GivesLater (r >>= f)
bind_gives r f h next e = let b = bind_ok r f next e in h b.0 next b.2

require_gives : (b : Bool) (reason : Reason) (r : Result Stage Reason) → GivesLater r → GivesLater (require b reason r)
require_gives b reason r h next e = h next (require_ok b reason r next e).1

bool_gives : (b : Bool) (r s : Result Stage Reason) → GivesLater r → GivesLater s
    → GivesLater (elim b [ true ↦ r | false ↦ s ])
bool_gives true r s h k = h
bool_gives false r s h k = k

refused_gives : (o : Option Reason) (stage : Stage) → IsLater stage → GivesLater (refused_by o (Ok stage))
refused_gives o stage later next e = gives stage later next (refused_ok o (Ok stage) next e).1

proving_later : (heading : Heading) (claim : Claim) (refuted : Refuted) → IsLater (proving heading claim refuted)
proving_later Answer claim refuted = tt
proving_later Reduced claim refuted = tt
proving_later Bounded claim refuted = tt

placed_later : (heading : Heading) (claim : Claim) (refuted : Refuted) → IsLater (placed heading claim refuted)
placed_later heading Fitting refuted = tt
placed_later heading NotFitting refuted = proving_later heading NotFitting refuted
placed_later heading (LeastHeight h) refuted = proving_later heading (LeastHeight h) refuted
placed_later heading (HeightBetween a b) refuted = proving_later heading (HeightBetween a b) refuted
placed_later heading NoHeight refuted = proving_later heading NoHeight refuted
placed_later heading (LeastBins k) refuted = proving_later heading (LeastBins k) refuted
placed_later heading (BinsBetween a b) refuted = proving_later heading (BinsBetween a b) refuted
placed_later heading NoBins refuted = proving_later heading NoBins refuted
placed_later heading (GreatestValue v) refuted = proving_later heading (GreatestValue v) refuted
placed_later heading (ValueBetween a b) refuted = proving_later heading (ValueBetween a b) refuted

share_later : (instance : PlainInstance) (claim : Claim) (k : ℕ) (bins places ns : List ℕ)
    → GivesLater (share_line instance claim k bins places ns)
share_later instance claim k bins places [] next e = refuses form next e
share_later instance claim k bins places (b ∷ ns) next e =
    let q = require_ok (nat_le 1 b && nat_le b k) range _ next e in
    let c = bind_ok (coordinates ns) _ next q.1 in
    bool_gives (length (bins ++ pred b ∷ []) == box_count instance) _ _
    (refused_gives (bins_reason instance k (bins ++ pred b ∷ []) (places ++ c.0))
    (placed Answer claim (refutation_goal Answer instance claim))
    (placed_later Answer claim (refutation_goal Answer instance claim)))
    (gives (Sharing instance claim k (bins ++ pred b ∷ []) (places ++ c.0)) tt) next c.2

value_later : (heading : Heading) (instance : PlainInstance) (claim : Claim)
    → IsLater (value_stage heading instance claim)
value_later Answer instance claim = tt
value_later Reduced instance claim = tt
value_later Bounded instance claim = tt

take_later : (heading : Heading) (instance : PlainInstance) (claim : Claim) (value : ℕ) (taken places ns : List ℕ)
    → GivesLater (take_box_line heading instance claim value taken places ns)
take_later heading instance claim value taken places [] next e = refuses form next e
take_later heading instance claim value taken places (v ∷ ns) next e =
    let q = require_ok (names_box instance v && list_all (λ u. nat_lt u (pred v)) taken) range _ next e in
    let c = bind_ok (coordinates ns) _ next q.1 in
    gives (Taking heading instance claim value (taken ++ pred v ∷ []) (places ++ c.0)) tt next c.2

grown_later : (claim : Claim) (tree : Tree) → IsLater (grown_tree claim tree)
grown_later claim tree = go (is_whole tree)
  where
    go : (b : Bool) → IsLater (cond b (Ending claim (Some (tree_dims tree))) (Refuting claim tree))
    go true = tt
    go false = tt

bounding_end_later : (claim : Claim) (nodes : List (OpenNode BoxChoice)) → GivesLater (bounding_end claim nodes)
bounding_end_later claim [] next e = gives (Ended claim) tt next e
bounding_end_later claim (n ∷ nodes) next e = refuses TooShort next e

bounding_later : (instance : PlainInstance) (claim : Claim) (value : ℕ) (nodes : List (OpenNode BoxChoice))
    (t : Option BoundedToken) → GivesLater (bounding_token instance claim value nodes t)
bounding_later instance claim value nodes None next e = refuses form next e
bounding_later instance claim value nodes (Some t) next e =
    let b = bind_ok (coded (bounded_after instance value nodes t)) (λ left. Ok (Bounding instance claim value left))
    next e in gives (Bounding instance claim value b.0) tt next b.2

gathering_end_later : (claim : Claim) (nodes : List FamilyNode) → GivesLater (gathering_end claim nodes)
gathering_end_later claim [] next e = gives (Ended claim) tt next e
gathering_end_later claim (n ∷ nodes) next e = refuses TooShort next e

gathering_later : (instance : PlainInstance) (claim : Claim) (nodes : List FamilyNode) (t : Option FamilyToken)
    → GivesLater (gathering_token instance claim nodes t)
gathering_later instance claim nodes None next e = refuses form next e
gathering_later instance claim nodes (Some t) next e =
    let b = bind_ok (coded (families_after instance nodes t)) (λ left. Ok (Gathering instance claim left)) next e in
    gives (Gathering instance claim b.0) tt next b.2

exceeding_later : (instance : PlainInstance) (claim : Claim) (m : ℕ) (t : PlainToken)
    → GivesLater (exceeding_token instance claim m t)
exceeding_later instance claim m (TooLarge v i) next e =
    let q = require_ok (names_box instance v && (nat_le 1 i && nat_le i m)) range _ next e in
    let w = require_ok (nat_lt (container_side instance (pred i)) (side instance (pred v) (pred i))) _
    (Ok (Ending claim (Some (dims instance)))) next q.1 in
    gives (Ending claim (Some (dims instance))) tt next w.1
exceeding_later instance claim m (Apart i u v) next e = refuses form next e
exceeding_later instance claim m (Order i u v) next e = refuses form next e
exceeding_later instance claim m Rules next e = refuses form next e
exceeding_later instance claim m (Scales fs) next e = refuses form next e
exceeding_later instance claim m (Assign v) next e = refuses form next e
exceeding_later instance claim m (Choose v) next e = refuses form next e
exceeding_later instance claim m (SetRefuted b) next e = refuses form next e
exceeding_later instance claim m ValueShort next e = refuses form next e
exceeding_later instance claim m (GlobalScales fs) next e = refuses form next e

pub words_later : (stage : Stage) (words : List (List ℕ)) → IsLater stage → GivesLater (words_line stage words)
words_later (Beginning h) words later next e = absurd later
words_later (Reading h j p) words later next e = absurd later
words_later (Placing h i c r p) words later next e =
    let n = bind_ok (numbers_line (codes "place") (dims i) words) _ next e in
    let x = bind_ok (coordinates n.0) _ next n.2 in
    bool_gives (length (p ++ x.0) == box_count i * dims i) _ _
    (refused_gives (places_reason i (p ++ x.0)) (placed h c r) (placed_later h c r))
    (gives (Placing h i c r (p ++ x.0)) tt) next x.2
words_later (Sharing i c k b p) words later next e =
    bind_gives (numbers_line (codes "place") (suc (dims i)) words) (λ ns. share_line i c k b p ns)
    (λ ns. share_later i c k b p ns) next e
words_later (Taking h i c v t p) words later next e =
    bool_gives (is_word (codes "proof") words) _ _
    (refused_gives (taken_reason i v t p) (value_stage h i c) (value_later h i c))
    (bind_gives (numbers_line (codes "take") (suc (dims i)) words) (λ ns. take_box_line h i c v t p ns)
    (λ ns. take_later h i c v t p ns)) next e
words_later (Proving c r) words later next e =
    require_gives (is_word (codes "proof") words) form (Ok (Refuting c (begun r)))
    (gives (Refuting c (begun r)) tt) next e
words_later (ProvingFamilies i c) words later next e =
    require_gives (is_word (codes "proof") words) form (Ok (Gathering i c (Free [] ∷ [])))
    (gives (Gathering i c (Free [] ∷ [])) tt) next e
words_later (Refuting c t) words later next e =
    let b = bind_ok (tree_token (is_word (codes "end") words) (token_of (tree_dims t) words))
    (λ x. coded (tree_after t x) >>= λ more. Ok (grown_tree c more)) next e in
    let m = bind_ok (coded (tree_after t b.0)) (λ more. Ok (grown_tree c more)) next b.2 in
    gives (grown_tree c m.0) (grown_later c m.0) next m.2
words_later (Bounding i c y ns) words later next e =
    bool_gives (is_word (codes "end") words) _ _ (bounding_end_later c ns)
    (bounding_later i c y ns (bounded_token_of (dims i) words)) next e
words_later (Gathering i c ns) words later next e =
    bool_gives (is_word (codes "end") words) _ _ (gathering_end_later c ns)
    (gathering_later i c ns (family_token_of (dims i) words)) next e
words_later (Exceeding i c m) words later next e =
    bind_gives (tree_token (is_word (codes "end") words) (token_of (dims i) words)) (λ x. exceeding_token i c m x)
    (λ x. exceeding_later i c m x) next e
words_later (Ending c b) words later next e =
    require_gives (is_word (codes "end") words) (late_line b words) (Ok (Ended c)) (gives (Ended c) tt) next e
words_later (Ended c) words later next e = refuses after next e

-- from a later stage on, no line has a bad byte, and the words of those that aren't blank give the claim
pub words_read : (stage : Stage) (n : ℕ) (lines : List (List ℕ)) (claim : Claim) → IsLater stage
    → read_document_lines stage n lines ≡ Ok claim
    → AreClean lines × (read_words stage (filled_lines lines) ≡ Ok claim)
words_read stage n [] claim later e = (refl, end_read stage n claim e)
words_read stage n (line ∷ lines) claim later e =
    let s = stepped stage n line lines claim e in
    by_parts s.next s.rest (list_any is_bad (content line)) (words_of (content line)) refl s.step
    (λ next l r. words_read next (n + 1) lines claim l r)
  where
    by_parts : (next : Stage) → read_document_lines next (n + 1) lines ≡ Ok claim → (b : Bool) (words : List (List ℕ))
        → list_any is_bad (content line) ≡ b
        → stage_after stage (record { bad = b; count = length words; words = words }) ≡ Ok next
        → ((s : Stage) → IsLater s → read_document_lines s (n + 1) lines ≡ Ok claim
        → AreClean lines × (read_words s (filled_lines lines) ≡ Ok claim))
        → AreClean (line ∷ lines) × (read_words stage (filled_with words lines) ≡ Ok claim)
    by_parts next rest true [] bad step go = absurd (true≢false (filled_ok stage next true 0 [] later step).0)
    by_parts next rest true (w ∷ ws) bad step go =
        absurd (true≢false (filled_ok stage next true (length (w ∷ ws)) (w ∷ ws) later step).0)
    by_parts next rest false [] bad step go =
        let r = go stage later (subst (λ s. read_document_lines s (n + 1) lines ≡ Ok claim)
        (sym (ok_is stage next step)) rest) in
        (clean_from line lines bad r.0, r.1)
    by_parts next rest false (w ∷ ws) bad step go =
        let f = filled_ok stage next false (length (w ∷ ws)) (w ∷ ws) later step in
        let r = go next (words_later stage (w ∷ ws) later next f.1) rest in
        (clean_from line lines bad r.0, ap (λ x. x >>= λ s. read_words s (filled_lines lines)) f.1 ∙ r.1)
