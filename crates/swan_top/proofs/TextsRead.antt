-- Reading the inputs of a job one after another.
use Rattle.std.proofs.Common.{◌≡◌, ℕ, ◌<◌, ◌≤◌, List, [], ◌∷◌, ◌++◌, length, get_or, Option, Some, None, refl, sym, ap, subst, arith, ◌∙◌}
use Rattle.std.proofs.Common.{inl, inr}
use Rattle.swan_top.specs.declared.verdict.Settled.{Settled}
use Rattle.swan_outside.specs.Counts.{Rose}
use Rattle.swan_outside.specs.Reads.{IsTooLong}
use Rattle.swan_top.specs.Decision.{Verdict, unread}
use Rattle.swan_top.specs.Headline.{WereRead, FilesSeen, WasRead, NoReadFailed, NoneTooLong, ReadRefused, files_seen}
use Rattle.swan_top.specs.Settled.{Is, StopsOver, StopsWith, InputUnread, verdict_of}
use Rattle.swan_top.specs.declared.verdict.WhyStopped.{WhyStopped}
use Rattle.swan_top.specs.declared.verdict.WhyStopped.TheVariants as stop

-- one more text of the file that comes next
pub AreRead-push : (content : List ℕ → Option (List ℕ)) (files texts : List (List ℕ)) (text file : List ℕ) → WereRead content files texts → length texts < length files → get_or files (length texts) file ≡ file → WasRead (content file) text → WereRead content files (texts ++ text ∷ [])
AreRead-push content [] texts text file read within at tells = absurd (omega arith)
AreRead-push content (name ∷ names) [] text file read within at tells =
    let P : List ℕ → Type 0 = λ f. WasRead (content f) text in (subst P (sym at) tells, tt)
AreRead-push content (name ∷ names) (other ∷ texts) text file read within at tells =
    (read.0, AreRead-push content names texts text file read.1 (omega arith) at tells)

-- the file that comes next has no text yet
pub unread_next : (files texts : List (List ℕ)) (file : List ℕ) → length texts < length files → get_or files (length texts) file ≡ file → unread files texts ≡ Some file
unread_next [] texts file within at = absurd (omega arith)
unread_next (name ∷ names) [] file within at = ap (λ f. Some f) at
unread_next (name ∷ names) (other ∷ texts) file within at = unread_next names texts file (omega arith) at

pub unread_none : (files texts : List (List ℕ)) → length files ≤ length texts → unread files texts ≡ None
unread_none [] texts within = refl
unread_none (name ∷ names) [] within = absurd (omega arith)
unread_none (name ∷ names) (text ∷ texts) within = unread_none names texts (omega arith)

-- no read was refused
abbrev pub Unrefused : FilesSeen → Type 0
Unrefused files = NoReadFailed files × NoneTooLong files

-- a verdict that is so is so in another way
pub Stops-map : (U V : Type 0) (P Q : Verdict → Type 0) → (U → V) → ((verdict : Verdict) → P verdict → Q verdict) → (why : WhyStopped) → StopsWith U P why → StopsWith V Q why
Stops-map U V P Q g f (stop.Settled verdict) is = record { fact = f (verdict_of verdict) is.fact; ends = is.ends }
Stops-map U V P Q g f stop.NoMemory is = g is

module _ (content mid : List ℕ → Option (List ℕ)) (f0 f1 f2 l0 l1 l2 : ℕ) (faults : f1 ≡ f0) (long : l1 ≡ l0) (same : (other : List ℕ) → mid other ≡ content other) where
  -- a refusal of a later read is one of the whole call
  pub ReadRefused-since : (file : List ℕ) (verdict : Verdict) → ReadRefused (files_seen mid f1 f2 l1 l2) file verdict → ReadRefused (files_seen content f0 f2 l0 l2) file verdict
  ReadRefused-since file verdict (inl failed) =
      let P : ℕ → Type 0 = λ before. Rose before f2 in
      inl (failed.0, subst P faults failed.1, failed.2 ∙ long)
  ReadRefused-since file verdict (inr longer) =
      let P : ℕ → Type 0 = λ before. Rose before l2 in
      let Q : Option (List ℕ) → Type 0 = λ o. IsTooLong o in
      inr (longer.0, subst P long longer.1, longer.2 ∙ faults, subst Q (same file) longer.3)

  pub unrefused_since : Unrefused (files_seen mid f1 f2 l1 l2) → Unrefused (files_seen content f0 f2 l0 l2)
  unrefused_since kept = (kept.0 ∙ faults, kept.1 ∙ long)

  pub input_unread : (names texts : List (List ℕ)) (file : List ℕ) → WereRead content names texts → unread names texts ≡ Some file → (why : WhyStopped) → StopsOver (files_seen mid f1 f2 l1 l2) (ReadRefused (files_seen mid f1 f2 l1 l2) file) why → StopsOver (files_seen content f0 f2 l0 l2) (InputUnread (files_seen content f0 f2 l0 l2) names) why
  input_unread names texts file read is_next =
      Stops-map (Unrefused (files_seen mid f1 f2 l1 l2)) (Unrefused (files_seen content f0 f2 l0 l2)) (ReadRefused (files_seen mid f1 f2 l1 l2) file) (InputUnread (files_seen content f0 f2 l0 l2) names) (unrefused_since)
      (λ verdict refused. record { texts = texts; are_read = read; file = file; is_next = is_next; refused = ReadRefused-since file verdict refused })

pub Is-map : (P Q : Verdict → Type 0) → ((verdict : Verdict) → P verdict → Q verdict) → (verdict : Settled) → Is P verdict → Is Q verdict
Is-map P Q f verdict is = record { fact = f (verdict_of verdict) is.fact; ends = is.ends }
