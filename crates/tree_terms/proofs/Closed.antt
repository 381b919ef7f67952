-- The closure by rounds is what has a derivation; a conclusion whose premises hold in a derived
-- table is derived; and the tree of a node depends
-- on its closure alone.
use Rattle.std.proofs.Common.{◌≡◌, ℕ, zero, suc, refl, ap, ◌∙◌, List, [], ◌∷◌, ◌++◌}
use mathlib.Core.Path.{fun_ext}
use Rattle.packing_terms.specs.declared.Rel.{Rel}
use Rattle.packing_terms.specs.declared.Exclusion.{Exclusion}
use Rattle.packing_terms.specs.Packing.{PlainInstance}
use Rattle.packing_terms.specs.Exclusions.{Exclusions, excludes}
use Rattle.packing_terms.specs.Rules.{Follows}
use Rattle.packing_terms.specs.Closure.{IsDerived, AreDerived, Derives}
use Rattle.packing_terms.proofs.Monotone.{follows_more}
use Rattle.packing_terms.proofs.Closures.{derives_more}
use Rattle.packing_terms.proofs.Sets.{same_bool}
use Rattle.packing_terms.specs.Rounds.{closure}
use Rattle.packing_terms.proofs.RoundsLemmas.{closure_is, closure_stable}
use Rattle.tree_terms.specs.Trees.{SearchTree}
use Rattle.tree_terms.specs.InnerTree.{closed_node, node_tree}
use Rattle.packing_terms.proofs.Conflicts.{closed_there, closed_back}

module _ (instance : PlainInstance) where
  -- what follows by one rule from what has a derivation has a derivation
  pub follows_derived : (es : List Exclusion) (X : Exclusions) → AreDerived instance (excludes es) X
      → (i u v : ℕ) (r : Rel) → Follows instance X i u v r → IsDerived instance (excludes es) i u v r
  follows_derived es X derived i u v r f =
      (closure_is instance es i u v r).0 (closure_stable instance es i u v r
      (follows_more instance X (excludes (closure instance es))
      (λ j a b s h. (closure_is instance es j a b s).1 (derived j a b s h)) i u v r f))

  -- lists that derive one another have one closure
  pub same_closure : (es fs : List Exclusion) → Derives instance (excludes es) (excludes fs)
      → Derives instance (excludes fs) (excludes es)
      → excludes (closure instance es) ≡ excludes (closure instance fs)
  same_closure es fs there back = fun_ext (λ i. fun_ext (λ u. fun_ext (λ v. fun_ext (λ r.
      same_bool (excludes (closure instance es) i u v r) (excludes (closure instance fs) i u v r)
      (λ h. (closure_is instance fs i u v r).1 (there i u v r ((closure_is instance es i u v r).0 h)))
      (λ h. (closure_is instance es i u v r).1 (back i u v r ((closure_is instance fs i u v r).0 h)))))))

  append_more : (add es fs : List Exclusion) → Derives instance (excludes es) (excludes fs)
      → Derives instance (excludes (add ++ es)) (excludes (add ++ fs))
  append_more [] es fs h = h
  append_more (e ∷ add) es fs h = derives_more instance e (add ++ es) (add ++ fs) (append_more add es fs h)

  pub same_tree : (depth : ℕ) (es fs : List Exclusion) → Derives instance (excludes es) (excludes fs)
      → Derives instance (excludes fs) (excludes es)
      → node_tree instance depth es ≡ node_tree instance depth fs
  same_tree zero es fs there back = refl
  same_tree (suc depth) es fs there back =
      ap (λ X. closed_node instance X (λ add. node_tree instance depth (add ++ closure instance es)))
      (same_closure es fs there back)
      ∙ ap (λ (t : List Exclusion → SearchTree). closed_node instance (excludes (closure instance fs)) t)
      (fun_ext (λ add. same_tree depth (add ++ closure instance es) (add ++ closure instance fs)
      (append_more add (closure instance es) (closure instance fs) (closed_derives es fs there))
      (append_more add (closure instance fs) (closure instance es) (closed_derives fs es back))))
    where
      closed_derives : (xs ys : List Exclusion) → Derives instance (excludes xs) (excludes ys)
          → Derives instance (excludes (closure instance xs)) (excludes (closure instance ys))
      closed_derives xs ys h i u v r d =
          closed_there instance ys i u v r (h i u v r (closed_back instance xs i u v r d))
