-- What a reading has of each frame, once one of them has gone on or has spawned a child.
use Rattle.std.proofs.Common.{◌≡◌, ◌≢◌, ℕ, suc, ◌+◌, Bool, true, false, nat_eq, cond, Option, None, Some, List, [], ◌∷◌, ◌++◌, map, refl, sym, ap, ◌∙◌, arith}
use Rattle.std.proofs.lemmas.Bool.{eq-eqb, ne_eqb}
use Rattle.std.specs.List.{find}
use Rattle.std.specs.Option.{option_map}
use Rattle.swan_model.specs.SerialTime.{Progress, Reading, frame_of}
use Rattle.swan_model.specs.Readings.{gone_on, gone_on_by, more_by, one_more}
use Rattle.swan_model.proofs.Elements.{find_map, found_before, found_last, found_unless}
use Rattle.swan_model.proofs.MovedFrames.{frame_number}

-- a change of the frames that leaves their numbers, and one frame
left-as-is : (g : Progress → Progress) (n : ℕ) (frames : List Progress) → ((f : Progress) → f.number ≡ n → g f ≡ f) → (found : Option Progress) → find (λ f. nat_eq f.number n) frames ≡ found → option_map g found ≡ found
left-as-is g n frames same None is = refl
left-as-is g n frames same (Some f) is = ap Some (same f (frame_number frames n f is))

other-moved : (g : Progress → Progress) (n : ℕ) (frames : List Progress) → ((f : Progress) → (g f).number ≡ f.number) → ((f : Progress) → f.number ≡ n → g f ≡ f)
    → find (λ f. nat_eq f.number n) (map g frames) ≡ find (λ f. nat_eq f.number n) frames
other-moved g n frames kept same =
    find_map (λ f. nat_eq f.number n) g (λ f. ap (λ k. nat_eq k n) (kept f)) frames
    ∙ left-as-is g n frames same (find (λ f. nat_eq f.number n) frames) refl

own-moved : (g : Progress → Progress) (n : ℕ) (frames : List Progress) (p : Progress) → ((f : Progress) → (g f).number ≡ f.number) → find (λ f. nat_eq f.number n) frames ≡ Some p
    → find (λ f. nat_eq f.number n) (map g frames) ≡ Some (g p)
own-moved g n frames p kept is = find_map (λ f. nat_eq f.number n) g (λ f. ap (λ k. nat_eq k n) (kept f)) frames ∙ ap (option_map g) is

-- ---- several entries more

pub number-by : (number many : ℕ) (f : Progress) → (more_by number many f).number ≡ f.number
number-by number many f = by (nat_eq f.number number) where
  by : (b : Bool) → (cond b (record f { done = f.done + many }) f).number ≡ f.number
  by true = refl
  by false = refl

pub own-gone_by : (r : Reading) (number many : ℕ) (p : Progress) → frame_of r number ≡ Some p → frame_of (gone_on_by r number many) number ≡ Some (record p { done = p.done + many })
own-gone_by r number many p known =
    own-moved (more_by number many) number r.frames p (number-by number many) known
    ∙ ap (λ b. Some (cond b (record p { done = p.done + many }) p)) (eq-eqb p.number number (frame_number r.frames number p known))

pub other-gone_by : (r : Reading) (number many n : ℕ) → n ≢ number → frame_of (gone_on_by r number many) n ≡ frame_of r n
other-gone_by r number many n apart =
    other-moved (more_by number many) n r.frames (number-by number many)
    (λ f own. ap (λ b. cond b (record f { done = f.done + many }) f) (ne_eqb f.number number (λ same. apart (sym own ∙ same))))

-- ---- one entry more

pub own-gone : (r : Reading) (number : ℕ) (p : Progress) → frame_of r number ≡ Some p → frame_of (gone_on r number) number ≡ Some (record p { done = p.done + 1 })
own-gone r number = own-gone_by r number 1

pub other-gone : (r : Reading) (number n : ℕ) → n ≢ number → frame_of (gone_on r number) n ≡ frame_of r n
other-gone r number = other-gone_by r number 1

-- none is the reading itself, and one more than many is many and then one
none-more : (number : ℕ) (f : Progress) → more_by number 0 f ≡ f
none-more number f = by (nat_eq f.number number) where
  by : (b : Bool) → cond b (record f { done = f.done + 0 }) f ≡ f
  by true = let same : f.done + 0 ≡ f.done = omega arith in ap {B = Progress} (λ d. record f { done = d }) same
  by false = refl

then-one : (number many : ℕ) (f : Progress) → more_by number (suc many) f ≡ one_more number (more_by number many f)
then-one number many f = by (nat_eq f.number number) refl where
  by : (b : Bool) → nat_eq f.number number ≡ b → more_by number (suc many) f ≡ one_more number (more_by number many f)
  by true is =
      let more : f.done + suc many ≡ f.done + many + 1 = omega arith in
      ap (λ b. cond b (record f { done = f.done + suc many }) f) is
      ∙ ap {B = Progress} (λ d. record f { done = d }) more
      ∙ sym (ap (λ b. cond b (record f { done = f.done + many + 1 }) (record f { done = f.done + many })) is)
      ∙ sym (ap (λ b. one_more number (cond b (record f { done = f.done + many }) f)) is)
  by false is =
      ap (λ b. cond b (record f { done = f.done + suc many }) f) is
      ∙ sym (ap (λ b. cond b (record f { done = f.done + 1 }) f) is)
      ∙ sym (ap (λ b. one_more number (cond b (record f { done = f.done + many }) f)) is)

each-none-more : (number : ℕ) (frames : List Progress) → map (more_by number 0) frames ≡ frames
each-none-more number [] = refl
each-none-more number (f ∷ frames) = ap {B = List Progress} (λ g. g ∷ map (more_by number 0) frames) (none-more number f) ∙ ap {B = List Progress} (λ gs. f ∷ gs) (each-none-more number frames)

each-then-one : (number many : ℕ) (frames : List Progress) → map (more_by number (suc many)) frames ≡ map (one_more number) (map (more_by number many) frames)
each-then-one number many [] = refl
each-then-one number many (f ∷ frames) =
    ap {B = List Progress} (λ g. g ∷ map (more_by number (suc many)) frames) (then-one number many f)
    ∙ ap {B = List Progress} (λ gs. one_more number (more_by number many f) ∷ gs) (each-then-one number many frames)

pub gone-by_none : (r : Reading) (number : ℕ) → gone_on_by r number 0 ≡ r
gone-by_none r number = ap {B = Reading} (λ frames. record r { frames = frames }) (each-none-more number r.frames)

pub gone-by_more : (r : Reading) (number many : ℕ) → gone_on_by r number (suc many) ≡ gone_on (gone_on_by r number many) number
gone-by_more r number many = ap {B = Reading} (λ frames. record r { frames = frames }) (each-then-one number many r.frames)

-- ---- a child more

-- the reading once a frame has done one more entry, and there is a new frame
abbrev pub with-child : Reading → ℕ → Progress → Reading
with-child r n new = record r { frames = map (more_by n 1) r.frames ++ new ∷ [] }

module _ (r : Reading) (n : ℕ) (new : Progress) where
  pub parent-spawned : (p : Progress) → frame_of r n ≡ Some p → frame_of (with-child r n new) n ≡ Some (record p { done = p.done + 1 })
  parent-spawned p known = found_before (λ (f : Progress). nat_eq f.number n) (map (more_by n 1) r.frames) new (record p { done = p.done + 1 }) (own-gone_by r n 1 p known)

  pub child-spawned : frame_of r new.number ≡ None → new.number ≢ n → frame_of (with-child r n new) new.number ≡ Some new
  child-spawned none apart = found_last (λ (f : Progress). nat_eq f.number new.number) (map (more_by n 1) r.frames) new (other-gone_by r n 1 new.number apart ∙ none) (eq-eqb new.number new.number refl)

  pub other-spawned : (m : ℕ) → m ≢ n → m ≢ new.number → frame_of (with-child r n new) m ≡ frame_of r m
  other-spawned m apart old = found_unless (λ (f : Progress). nat_eq f.number m) (map (more_by n 1) r.frames) new (ne_eqb new.number m (λ same. old (sym same))) ∙ other-gone_by r n 1 m apart
