-- The heaviest chains of the instance of a set are those of the whole instance among the boxes of the set.
use Rattle.std.proofs.Common.{◌≡◌, ℕ, ◌↔◌, sym, ◌∙◌, arith, List, [], ◌∷◌, ◌++◌}
use Rattle.packing_terms.specs.Packing.{PlainInstance}
use Rattle.packing_terms.specs.Exclusions.{Exclusions}
use Rattle.packing_terms.specs.Rules.{AreBoxes, IsChain, weight}
use Rattle.packing_terms.specs.Goals.{subset}
use Rattle.packing_terms.specs.Renumbering.{restricted}
use Rattle.packing_terms.proofs.Renumbered.{boxes_in, boxes_to, boxes_from, weight_same, chain_to, chain_from}
use Rattle.packing_terms.specs.Runs.{IsHeaviestHead, IsHeaviestTail}
use Rattle.packing_terms.specs.SetChains.{IsChainAmong, weight_among, IsHeaviestHeadAmong, IsHeaviestTailAmong}

module _ (instance : PlainInstance) (keep : List ℕ) (kept : AreBoxes instance keep) (X : Exclusions) (i : ℕ) where
  among : (vs : List ℕ) → AreBoxes (subset instance keep) vs → IsChain (restricted keep X) i vs
      → IsChainAmong instance keep X i vs
  among vs boxes chain =
      let inside = boxes_in instance keep kept vs boxes in
      record {
        inside = inside;
        boxes = boxes_to instance keep kept vs inside boxes;
        chain = chain_to instance keep kept X i vs inside chain;
      }

  weigh : (vs : List ℕ) → AreBoxes (subset instance keep) vs
      → weight (subset instance keep) i vs ≡ weight_among instance keep i vs
  weigh vs boxes = weight_same instance keep kept i vs (boxes_in instance keep kept vs boxes)

  own_boxes : (vs : List ℕ) → IsChainAmong instance keep X i vs → AreBoxes (subset instance keep) vs
  own_boxes vs c = boxes_from instance keep kept vs c.inside c.boxes

  own_chain : (vs : List ℕ) → IsChainAmong instance keep X i vs → IsChain (restricted keep X) i vs
  own_chain vs c = chain_from instance keep kept X i vs c.inside c.chain

  pub heads_same : (v k : ℕ) → IsHeaviestHead (subset instance keep) (restricted keep X) i v k ↔ IsHeaviestHeadAmong
      instance keep X i v k
  heads_same v k = (there, back)
    where
      there : IsHeaviestHead (subset instance keep) (restricted keep X) i v k
          → IsHeaviestHeadAmong instance keep X i v k
      there h = record {
        before = h.some.before;
        is_chain = among (h.some.before ++ v ∷ []) h.some.boxes h.some.chain;
        heavy = sym (weigh (h.some.before ++ v ∷ []) h.some.boxes) ∙ h.some.heavy;
        most = (λ others c. (let m = h.most others (own_boxes (others ++ v ∷ []) c) (own_chain (others ++ v ∷ []) c) in
            let e = weigh (others ++ v ∷ []) (own_boxes (others ++ v ∷ []) c) in omega (arith, m, e)));
      }

      back : IsHeaviestHeadAmong instance keep X i v k → IsHeaviestHead (subset instance keep) (restricted keep X) i v k
      back h = record {
        some = record {
          before = h.before;
          boxes = own_boxes (h.before ++ v ∷ []) h.is_chain;
          chain = own_chain (h.before ++ v ∷ []) h.is_chain;
          heavy = weigh (h.before ++ v ∷ []) (own_boxes (h.before ++ v ∷ []) h.is_chain) ∙ h.heavy;
        };
        most = (λ others boxes chain. (let m = h.most others (among (others ++ v ∷ []) boxes chain) in
            let e = weigh (others ++ v ∷ []) boxes in omega (arith, m, e)));
      }

  pub tails_same : (v k : ℕ) → IsHeaviestTail (subset instance keep) (restricted keep X) i v k ↔ IsHeaviestTailAmong
      instance keep X i v k
  tails_same v k = (there, back)
    where
      there : IsHeaviestTail (subset instance keep) (restricted keep X) i v k
          → IsHeaviestTailAmong instance keep X i v k
      there h = record {
        after = h.some.after;
        is_chain = among (v ∷ h.some.after) h.some.boxes h.some.chain;
        heavy = sym (weigh (v ∷ h.some.after) h.some.boxes) ∙ h.some.heavy;
        most = (λ others c. (let m = h.most others (own_boxes (v ∷ others) c) (own_chain (v ∷ others) c) in
            let e = weigh (v ∷ others) (own_boxes (v ∷ others) c) in omega (arith, m, e)));
      }

      back : IsHeaviestTailAmong instance keep X i v k → IsHeaviestTail (subset instance keep) (restricted keep X) i v k
      back h = record {
        some = record {
          after = h.after;
          boxes = own_boxes (v ∷ h.after) h.is_chain;
          chain = own_chain (v ∷ h.after) h.is_chain;
          heavy = weigh (v ∷ h.after) (own_boxes (v ∷ h.after) h.is_chain) ∙ h.heavy;
        };
        most = (λ others boxes chain. (let m = h.most others (among (v ∷ others) boxes chain) in
            let e = weigh (v ∷ others) boxes in omega (arith, m, e)));
      }
