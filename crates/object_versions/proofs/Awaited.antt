-- Which versions a frame waits for.
use Rattle.std.proofs.Common.{◌≡◌, ℕ, ◌<◌, Option, None, Some, true, refl, sym, ap, ◌∙◌, arith}
use Rattle.std.proofs.lemmas.Option.{none-some, same_Some}
use Rattle.slab.specs.Slab.{Slab}
use Rattle.swan_model.specs.declared.rights.Mode.{Mode}
use Rattle.swan_model.specs.declared.rights.Mode.TheVariants.{In}
use Rattle.swan_model.specs.Rights.{allows}
use Rattle.swan_model.specs.Versions.{Version, owed, owing as owing_of, Placed, Awaits, placed_at, Holds, MayGet}
use Rattle.object_versions.specs.declared.node.Node.{Node}
use Rattle.object_versions.specs.declared.placed_object.PlacedObject.{PlacedObject}
use Rattle.object_versions.specs.Following.{MayWrite}
use Rattle.object_versions.specs.Store.{PlaceEntries, place_at, version_at, object_at, given_of, placed_of, versions_of, uses}
use Rattle.object_versions.specs.Whole.{IsWhole, MayGetAt}
use Rattle.object_versions.specs.Waiting.{AwaitsAt}
use Rattle.object_versions.proofs.Differ.{owing_owed}
use Rattle.object_versions.proofs.Counts.{uses_at, present_used, given_used}
use Rattle.object_versions.proofs.Seeing.{seen_some, kept_of}

-- ---- at one place

given_key : (entries : PlaceEntries) (nodes : Slab Node) (frame place owing : ℕ) (has : PlacedObject) (o : Option ℕ) → has.given ≡ o → place_at entries frame place ≡ Some has
    → given_of nodes o ≡ Some owing → AwaitsAt entries nodes frame place owing
given_key entries nodes frame place owing has None given stands owes = absurd (cc)
given_key entries nodes frame place owing has (Some key) given stands owes =
    record { has = has; key = key; stands = stands; given = given; owes = owing_owed (version_at nodes key) owing owes }

-- nobody owes what a place was given
abbrev pub NoneOwes : Slab Node → PlacedObject → Type 0
NoneOwes nodes has = given_of nodes has.given ≡ None

pub awaits_here : (entries : PlaceEntries) (nodes : Slab Node) (frame place owing : ℕ) (has : PlacedObject) → place_at entries frame place ≡ Some has
    → given_of nodes has.given ≡ Some owing → AwaitsAt entries nodes frame place owing
awaits_here entries nodes frame place owing has stands owes = given_key entries nodes frame place owing has has.given refl stands owes

pub awaits_none : (entries : PlaceEntries) (nodes : Slab Node) (frame place owing : ℕ) (waits : AwaitsAt entries nodes frame place owing) → NoneOwes nodes waits.has → ⊥
awaits_none entries nodes frame place owing waits none = none-some owing (sym none ∙ ap (given_of nodes) waits.given ∙ ap owing_of waits.owes)

-- ---- as contracts see it

pub awaits_kept : (entries : PlaceEntries) (nodes : Slab Node) (made frame place owing : ℕ) → Awaits (versions_of entries nodes made) frame place owing → AwaitsAt entries nodes frame place owing
awaits_kept entries nodes made frame place owing waits =
    let kept = kept_of entries nodes made frame place waits.object waits.stands in
    given_key entries nodes frame place owing kept.has kept.has.given refl kept.stands (sym (ap (λ o. o.given) kept.is) ∙ waits.owes)

pub awaits_seen : (entries : PlaceEntries) (nodes : Slab Node) (made frame place owing : ℕ) → AwaitsAt entries nodes frame place owing → Awaits (versions_of entries nodes made) frame place owing
awaits_seen entries nodes made frame place owing waits = record {
  object = placed_of nodes waits.has;
  stands = seen_some entries nodes made frame place waits.has waits.stands;
  owes = ap (given_of nodes) waits.given ∙ ap owing_of waits.owes;
}

-- and it may read the object there
pub awaits_read : (entries : PlaceEntries) (nodes : Slab Node) (made frame place owing : ℕ) → IsWhole entries nodes made (λ _. 0) → AwaitsAt entries nodes frame place owing
    → (waits : Awaits (versions_of entries nodes made) frame place owing) × (allows waits.object.mode In ≡ true)
unfolding awaits_seen
awaits_read entries nodes made frame place owing whole waits =
    (awaits_seen entries nodes made frame place owing waits, (whole.fits frame place waits.has waits.stands).reads waits.key waits.given)

-- ---- who owes a version has the object too, and may write it

module _ (entries : PlaceEntries) (nodes : Slab Node) (made : ℕ) (whole : IsWhole entries nodes made (λ _. 0)) where
  writes : (key owing object : ℕ) → 0 < uses key entries → version_at nodes key ≡ owed owing → object_at nodes key ≡ object → MayWrite (versions_of entries nodes made) owing object
  writes key owing object some is same =
      let found = whole.owing key owing some is in
      let owes = (whole.fits owing found.place found.has found.stands).owes key found.owes in
      (found.place, placed_of nodes found.has, seen_some entries nodes made owing found.place found.has found.stands, sym owes.same ∙ same, owes.may)

  pub given_owes : (frame place owing : ℕ) (awaits : Awaits (versions_of entries nodes made) frame place owing)
      → MayWrite (versions_of entries nodes made) owing awaits.object.object
  given_owes frame place owing awaits =
      let kept = kept_of entries nodes made frame place awaits.object awaits.stands in
      let waits = given_key entries nodes frame place owing kept.has kept.has.given refl kept.stands (sym (ap (λ o. o.given) kept.is) ∙ awaits.owes) in
      let this : waits.has ≡ kept.has = same_Some waits.has kept.has (sym waits.stands ∙ kept.stands) in
      let some : 0 < uses waits.key entries = let most = uses_at entries waits.key frame place waits.has waits.stands in let here = given_used waits.has waits.key waits.given in omega arith in
      writes waits.key owing awaits.object.object some waits.owes
      ((whole.fits frame place waits.has waits.stands).given waits.key waits.given ∙ ap (λ h. h.object) this ∙ sym (ap (λ o. o.object) kept.is))

  pub present_owes : (frame place owing : ℕ) (object : Placed) → placed_at (versions_of entries nodes made) frame place ≡ Some object → object.present ≡ owed owing
      → MayWrite (versions_of entries nodes made) owing object.object
  present_owes frame place owing object stands is =
      let kept = kept_of entries nodes made frame place object stands in
      let some : 0 < uses kept.has.present entries = let most = uses_at entries kept.has.present frame place kept.has kept.stands in let here = present_used kept.has in omega arith in
      writes kept.has.present owing object.object some (sym (ap (λ o. o.present) kept.is) ∙ is)
      ((whole.fits frame place kept.has kept.stands).present ∙ sym (ap (λ o. o.object) kept.is))

-- what is read of the node of what contracts see
pub present_by : (entries : PlaceEntries) (nodes : Slab Node) (made frame place : ℕ) (has : PlacedObject) (version : Version)
    → place_at entries frame place ≡ Some has → version_at nodes has.present ≡ version
    → (object : Placed) → placed_at (versions_of entries nodes made) frame place ≡ Some object → object.present ≡ version
present_by entries nodes made frame place has version stands reads object seen =
    let kept = kept_of entries nodes made frame place object seen in
    let this : kept.has ≡ has = same_Some kept.has has (sym kept.stands ∙ stands) in
    ap (λ o. o.present) kept.is ∙ ap (λ h. version_at nodes h.present) this ∙ reads

pub absent : (entries : PlaceEntries) (nodes : Slab Node) (made frame place : ℕ) (object : Placed) → place_at entries frame place ≡ None
    → placed_at (versions_of entries nodes made) frame place ≡ Some object → ⊥
absent entries nodes made frame place object none seen =
    let kept = kept_of entries nodes made frame place object seen in none-some kept.has (sym none ∙ kept.stands)

-- ---- what a parent may give

pub may_give : (entries : PlaceEntries) (nodes : Slab Node) (made parent pp child : ℕ) (mode : Mode) → (held : Holds (versions_of entries nodes made) parent pp mode)
    → ((object : Placed) → placed_at (versions_of entries nodes made) parent pp ≡ Some object → MayGet (versions_of entries nodes made) child object.object mode)
    → (object : PlacedObject) × (place_at entries parent pp ≡ Some object) × (allows object.mode mode ≡ true) × MayGetAt entries child object.object mode
may_give entries nodes made parent pp child mode held alone =
    let kept = kept_of entries nodes made parent pp held.object held.stands in (
      kept.has,
      kept.stands,
      sym (ap (λ o. allows o.mode mode) kept.is) ∙ held.may,
      record {
        alone = λ place has stands same.
            (alone held.object held.stands).alone place (placed_of nodes has) (seen_some entries nodes made child place has stands) (same ∙ sym (ap (λ o. o.object) kept.is));
      },
    )
