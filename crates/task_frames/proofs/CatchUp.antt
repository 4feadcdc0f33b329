-- A frame that comes back to the core has taken steps by itself: the versions follow the reading that has caught up.
use Rattle.std.proofs.Common.{◌≡◌, ℕ, zero, suc, ◌+◌, ◌<◌, ◌≤◌, true, false, cond, None, Some, length, refl, sym, ap, subst, ◌∙◌, arith}
use Rattle.std.proofs.lemmas.Bool.{lt-ltb}
use Rattle.swan_model.specs.declared.script.Deed.{Deed}
use Rattle.swan_model.specs.declared.script.Deed.TheVariants as deed
use Rattle.swan_model.specs.declared.script.Script.{Script}
use Rattle.swan_model.specs.Granted.{is_spawn}
use Rattle.swan_model.specs.Lawful.{IsLawful}
use Rattle.swan_model.specs.Readings.{gone_on, next_deed}
use Rattle.swan_model.specs.SerialTime.{Progress, Reading, frame_of, point, time, times}
use Rattle.swan_model.specs.Told.{deed_at}
use Rattle.swan_model.specs.Versions.{VersionState}
use Rattle.swan_model.specs.VersionsFollow.{ObjectsFollow, is_object_deed}
use Rattle.swan_model.proofs.TaskEntries.{point_is}
use Rattle.swan_model.proofs.MovedFrames.{frame_number}
use Rattle.object_versions.proofs.PassFollows.{others_pass}
use Rattle.swan_model.specs.Readings.{gone_on_by}
use Rattle.serial_elision.specs.Caught.{is_sync}
use Rattle.task_frames.specs.Frames.{AreLocal, is_local}
use Rattle.task_frames.proofs.GoneOn.{gone-by_more, gone-by_none, own-gone_by}

-- a local deed isn't one of objects, no spawn and no Sync
pub local-passes : (does : Deed) → is_local does ≡ true → (is_object_deed does ≡ false) × (is_spawn does ≡ false) × (is_sync does ≡ false)
local-passes deed.Quiet is = (refl, refl, refl)
local-passes (deed.Push queue value) is = (refl, refl, refl)
local-passes (deed.Pop queue) is = (refl, refl, refl)
local-passes (deed.Test queue) is = (refl, refl, refl)
local-passes _ is = absurd (cc)

-- what comes next for a frame is what its task does after as many steps
pub next-is : (s : Script) (p : Progress) → p.done < length (times s p.path) → next_deed s p ≡ Some (deed_at s (time s p.path p.done))
next-is s p left =
    ap (λ b. cond b (Some (deed_at s (point s p))) None) (lt-ltb p.done (length (times s p.path)) left)
    ∙ ap (λ t. Some (deed_at s t)) (point_is s p left)

module _ (s : Script) (lawful : IsLawful s) (r : Reading) (v : VersionState) (number : ℕ) (p : Progress) (known : frame_of r number ≡ Some p) where
  own : p.number ≡ number
  own = frame_number r.frames number p known

  -- the versions follow the reading in which the frame has done its local steps
  pub caught-up : (many : ℕ) → ObjectsFollow s r v → AreLocal s p.path p.done (p.done + many) → p.done + many ≤ length (times s p.path) → ObjectsFollow s (gone_on_by r number many) v
  caught-up zero follows local left = subst (λ q. ObjectsFollow s q v) (sym (gone-by_none r number)) follows
  caught-up (suc many) follows local left =
      let before = caught-up many follows (record { order = omega arith; each = λ k late early. local.each k late (omega arith) }) (omega arith) in
      let now = gone_on_by r number many in
      let at : Progress = record p { done = p.done + many } in
      let stands : frame_of now at.number ≡ Some at = ap (frame_of now) own ∙ own-gone_by r number many p known in
      let does = deed_at s (time s p.path (p.done + many)) in
      let quiet = local-passes does (local.each (p.done + many) (omega arith) (omega arith)) in
      let next : ObjectsFollow s (gone_on now at.number) v = others_pass s now v at does lawful before stands (next-is s at (omega arith)) quiet.0 quiet.1 now.queues in
      subst (λ q. ObjectsFollow s q v) (sym (gone-by_more r number many)) (subst (λ k. ObjectsFollow s (gone_on now k) v) own next)
