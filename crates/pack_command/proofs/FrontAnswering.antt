-- What was read and found is the front of the instance.
use Rattle.std.proofs.Common.{◌≡◌, ℕ, arith, sym, ap, subst, ◌∙◌, List, [], ◌∷◌, map, length, Ok, Err}
use Rattle.std.proofs.Common.{Result, IfOk, String, Global}
use Rattle.std.specs.declared.option.Option.{Option}
use Rattle.std.proofs.lemmas.List.{length-map}
use Rattle.packing_terms.specs.Packing.{PlainInstance, dims, box_count}
use Rattle.packing_terms.specs.Limits.{IsInstance}
use Rattle.text_terms.specs.declared.settings.Settings.{Settings}
use Rattle.answer_terms.specs.Walks.{PlainFront, front_walk}
use Rattle.answer_terms.specs.FrontTexts.{front_status, front_text}
use Rattle.size_front.specs.declared.front.Front.{Front}
use Rattle.size_front.specs.declared.front.Point.{Point}
use Rattle.size_front.specs.Plain.{plain_front, plain_point}
use Rattle.answer_streams.specs.FrontTexts.{AreAllPlaced}
use Rattle.pack_streams.specs.Moves.{Appended}
use Rattle.pack_streams.specs.Writing.{AppendedPrefix}
use Rattle.pack_command.specs.Asked.{AsksFront}
use Rattle.pack_command.specs.Fronts.{IsFrontAnswered, IsFrontWritten, IsFrontPartlyWritten, IsNotTwoDimensional, AreAllPacked}
use Rattle.pack_command.specs.Inputs.{IsInputRead, IsPartTaken}
use Rattle.pack_command.proofs.Sized.{walk_packed}

-- a packing has two coordinates for each box
placed_from : (instance : PlainInstance) (points : List Point) → AreAllPacked instance (map plain_point points)
    → AreAllPlaced (box_count instance) points
placed_from instance [] h = tt
placed_from instance (p ∷ points) h = (let count = (h.0).count in omega (arith, count), placed_from instance points h.1)

pub found_placed : {E : Type 0} (instance : PlainInstance) (settings : Settings) → IsInstance instance
    → dims instance ≡ 2 → (r : Result Front E)
    → IfOk r (λ f. plain_front f ≡ front_walk instance settings.budget settings.scales)
    → IfOk r (λ f. AreAllPlaced (box_count instance) f.points.items)
found_placed instance settings limits plane (Ok front) e =
    placed_from instance front.points.items
    (subst (λ (f : PlainFront). AreAllPacked instance f.points) (sym e) (walk_packed instance settings limits plane))
found_placed instance settings limits plane (Err x) e = tt

module _ (words : List (String Global)) (old new sunk_old sunk_new : Option (List ℕ)) (settings : Settings)
    (instance : PlainInstance) (front : Front)
    (asks : AsksFront words settings) (read : IsInputRead old new (Ok instance)) (limits : IsInstance instance)
    (plane : dims instance ≡ 2)
    (walk : plain_front front ≡ front_walk instance settings.budget settings.scales) where
  answered : IsFrontAnswered words old new settings instance
  answered = record { asked = asks; bytes = read.0; input = read.1; read = read.2; limits = limits; plane = plane }

  pub front_written : (status : ℕ) → status ≡ front_status front.complete (length front.points.items)
      → Appended sunk_old sunk_new (front_text instance (plain_front front))
      → IsFrontWritten words old new sunk_old sunk_new status
  front_written status is written =
      let count = length-map front.points.items plain_point in
      record {
        settings = settings;
        instance = instance;
        answered = answered;
        status_is = is ∙ (ap (λ n. front_status front.complete n) (sym count)
            ∙ ap (λ (f : PlainFront). front_status f.complete (length f.points)) walk);
        written = subst (λ (f : PlainFront). Appended sunk_old sunk_new (front_text instance f)) walk written;
      }

  pub front_cut : AppendedPrefix sunk_old sunk_new (front_text instance (plain_front front))
      → IsFrontPartlyWritten words old new sunk_old sunk_new
  front_cut part = record {
    settings = settings;
    instance = instance;
    answered = answered;
    part = subst (λ (f : PlainFront). AppendedPrefix sunk_old sunk_new (front_text instance f)) walk part;
  }

module _ (old new : Option (List ℕ)) (instance : PlainInstance) (read : IsInputRead old new (Ok instance)) where
  pub other_read : ¬ (dims instance ≡ 2) → IsNotTwoDimensional old new
  other_read other = record { bytes = read.0; instance = instance; input = read.1; read = read.2; other = other }

  pub whole_taken : IsPartTaken old new
  whole_taken = record {
    bytes = read.0;
    taken = (read.1).taken;
    within = let few = (read.1).within in
        omega (arith, few);
  }
