-- What each call leaves follows script and reading, in the shape of the calls' clauses: what the objects are now is what
-- the call says that it leaves.
use Rattle.std.proofs.Common.{◌≡◌, ℕ, true, Some, None, Result, Ok, Err, Bor, List, [], length, sym, ap, subst, ◌∙◌, arith}
use Rattle.std.proofs.lemmas.Option.{slice_get-get_or}
use Rattle.std.specs.Prelude.{slice_get}
use Rattle.std.specs.Option.{option_and_then}
use Rattle.std.specs.Result.{IfOk}
use Rattle.swan_model.specs.declared.origin.Origin.{Origin}
use Rattle.swan_model.specs.declared.origin.Origin.TheVariants.{Root, Step}
use Rattle.swan_model.specs.declared.rights.Mode.TheVariants.{Out}
use Rattle.swan_model.specs.declared.script.Deed.TheVariants as deed
use Rattle.swan_model.specs.declared.script.Script.{Script}
use Rattle.swan_model.specs.declared.value.Value.{Value}
use Rattle.swan_model.specs.Lawful.{IsLawful}
use Rattle.swan_model.specs.Readings.{at_start, gone_on, next_deed, with_object}
use Rattle.swan_model.specs.Rights.{allows}
use Rattle.swan_model.specs.SerialTime.{Progress, Reading, frame_of, point, times, version}
use Rattle.swan_model.specs.Told.{cell}
use Rattle.swan_model.specs.Versions.{Version, settled, Placed, VersionState, IsSettled, placed_at, new_versions, objects_after_create, after_write, objects_after_finish}
use Rattle.swan_model.specs.VersionsFollow.{ObjectsFollow, IsVersionAt}
use Rattle.object_versions.specs.Following.{NextWrites}
use Rattle.object_versions.proofs.FinishFollows.{finish_follows}
use Rattle.object_versions.proofs.MakeFollows.{made_object_follows, new_follow, root_object_follows}
use Rattle.object_versions.proofs.WriteFollows.{write_follows}

-- ---- `new`

pub new_follows : (now : VersionState) → now ≡ new_versions
    → (s : Script) (queues : List Origin) → IsLawful s → ObjectsFollow s (at_start queues []) now
new_follows now is = λ s queues lawful. subst (ObjectsFollow s (at_start queues [])) (sym is) (new_follow s queues lawful)

-- ---- `create`

pub create_root : (old now : VersionState) (frame place : ℕ) (first : Value) → placed_at old frame place ≡ None → now ≡ objects_after_create old frame place first
    → (s : Script) (r : Reading) (root : Progress) → IsLawful s → ObjectsFollow s r old → frame ≡ 0 → frame_of r 0 ≡ Some root → root.done ≡ 0
    → slice_get s.objects old.made ≡ Some first → ObjectsFollow s (with_object r (Root old.made)) now
create_root old now frame place first free is = λ s r root lawful follows own known start object.
    subst (ObjectsFollow s (with_object r (Root old.made))) (sym is) (root_object_follows s r old frame place first root free lawful follows own known start object)

pub create_made : (old now : VersionState) (frame place : ℕ) (first : Value) → placed_at old frame place ≡ None → now ≡ objects_after_create old frame place first
    → (s : Script) (r : Reading) (maker : Progress) → IsLawful s → ObjectsFollow s r old → frame_of r frame ≡ Some maker → next_deed s maker ≡ Some (deed.MakeObject first)
    → ObjectsFollow s (with_object (gone_on r frame) (Step (point s maker))) now
create_made old now frame place first free is = λ s r maker lawful follows known next.
    subst (ObjectsFollow s (with_object (gone_on r frame) (Step (point s maker)))) (sym is) (made_object_follows s r old frame place first maker free lawful follows known next)

-- ---- `value`

is_value : (s : Script) (r : Reading) (origin : Origin) (t : ℕ) (found : Version) (value : Value) → found ≡ settled value → IsVersionAt s r origin t found → cell s origin t ≡ Some value
is_value s r origin t found value is at = subst (IsVersionAt s r origin t) is at

pub value_read : (now : VersionState) (frame place : ℕ) (value : Value) → ((object : Placed) → placed_at now frame place ≡ Some object → object.present ≡ settled value)
    → (s : Script) (r : Reading) (reader : Progress) (object : Placed) → ObjectsFollow s r now → frame_of r frame ≡ Some reader → placed_at now frame place ≡ Some object
    → version s r object.object reader ≡ Some value
value_read now frame place value is = λ s r reader object follows known stands.
    let less = follows.known frame place object stands in
    let count = follows.objects in
    let at = slice_get-get_or r.objects object.object (Root 0) (omega arith) in
    let has = follows.follows frame place reader object _ known stands at in
    ap (option_and_then (λ origin. cell s origin (point s reader))) at ∙ is_value s r _ (point s reader) object.present value (is object stands) has.present

-- the same of an answer by reference, which may be an error
pub value_told : {E : Type 0} (now : VersionState) (frame place : ℕ) (answer : Result (Bor Value) E)
    → IfOk answer (λ value. (object : Placed) → placed_at now frame place ≡ Some object → object.present ≡ settled value.now)
    → IfOk answer (λ value. (s : Script) (r : Reading) (reader : Progress) (object : Placed) → ObjectsFollow s r now → frame_of r frame ≡ Some reader
    → placed_at now frame place ≡ Some object → version s r object.object reader ≡ Some value.now)
value_told now frame place (Ok value) is = value_read now frame place value.now is
value_told now frame place (Err error) is = tt

-- ---- `write`

pub write_told : (old now : VersionState) (frame place : ℕ) (value : Value) → now ≡ after_write old frame place value
    → (s : Script) (r : Reading) (writer : Progress) (object : Placed) (origin : Origin) → IsLawful s → ObjectsFollow s r old → frame_of r frame ≡ Some writer
    → placed_at old frame place ≡ Some object → allows object.mode Out ≡ true → slice_get r.objects object.object ≡ Some origin
    → next_deed s writer ≡ Some (deed.Write origin value) → ObjectsFollow s (gone_on r frame) now
write_told old now frame place value is = λ s r writer object origin lawful follows known stands may made next.
    subst (ObjectsFollow s (gone_on r frame)) (sym is) (write_follows s r old lawful follows frame place writer object origin value known stands may made next)

-- the same in the clause's own words
pub next_write_told : (old now : VersionState) (frame place : ℕ) (value : Value) → now ≡ after_write old frame place value
    → (s : Script) (r : Reading) (writer : Progress) → IsLawful s → ObjectsFollow s r old → frame_of r frame ≡ Some writer → NextWrites s r old frame place value writer
    → ObjectsFollow s (gone_on r frame) now
next_write_told old now frame place value is = λ s r writer lawful follows known next.
    write_told old now frame place value is s r writer next.0 next.1 lawful follows known next.2 next.3 next.4 next.5

-- ---- `finish`

pub finish_told : (old now : VersionState) (frame : ℕ) → IsSettled old frame → now ≡ objects_after_finish old frame
    → (s : Script) (r : Reading) (ended : Progress) → IsLawful s → ObjectsFollow s r old → frame_of r frame ≡ Some ended → ended.done ≡ length (times s ended.path) → ObjectsFollow s r now
finish_told old now frame all is = λ s r ended lawful follows known done.
    subst (ObjectsFollow s r) (sym is) (finish_follows s r old frame ended all follows known done)
