-- A version that places refer to gets a value, whether it had one or a frame owes it.
use Rattle.std.proofs.Common.{◌≡◌, ◌≢◌, ℕ, ◌<◌, Some, sym, ap, ◌∙◌, subst, ⊎_elim}
use Rattle.std.proofs.lemmas.Bool.{cases_eq}
use Rattle.std.proofs.lemmas.Option.{same_Some}
use Rattle.slab.specs.Slab.{Slab, get, Updates}
use Rattle.swan_model.specs.declared.value.Value.{Value}
use Rattle.swan_model.specs.Versions.{settled, owed}
use Rattle.object_versions.specs.declared.node.Node.{Node}
use Rattle.object_versions.specs.declared.node.NodeState.TheVariants.{Settled}
use Rattle.object_versions.specs.declared.placed_object.PlacedObject.{PlacedObject}
use Rattle.object_versions.specs.Store.{told_of, told_at, version_at, object_at, uses_in}
use Rattle.object_versions.specs.Whole.{IsCounted, IsFit}
use Rattle.object_versions.proofs.Counts.{HasNode, counted_after, told_here, told_elsewhere}
use Rattle.object_versions.proofs.Differ.{settled_not-owed}

module _ (old new : Slab Node) (key : ℕ) (value : Value) (found : HasNode old key)
    (change : (node : Node) → get old key ≡ Some node → Updates old new key (Some (record node { state = Settled value }))) where
  pub update : Updates old new key (Some (record found.node { state = Settled value }))
  update = change found.node found.is

  told_key : told_at new key ≡ (object_at old key, settled value)
  told_key = told_here old new key _ update ∙ ap (λ o. (o, settled value)) (sym (ap (λ o. (told_of o).0) found.is))

  pub told_other : (k : ℕ) → k ≢ key → told_at new k ≡ told_at old k
  told_other k apart = told_elsewhere old new key _ update k apart

  pub value_now : version_at new key ≡ settled value
  value_now = ap (λ t. t.1) told_key

  pub same_object : (k : ℕ) → object_at new k ≡ object_at old k
  same_object k = ⊎_elim
      (λ e. ap (object_at new) e ∙ ap (λ t. t.0) told_key ∙ ap (object_at old) (sym e))
      (λ apart. ap (λ t. t.0) (told_other k apart))
      (cases_eq k key)

  -- what is owed now is another version, and was owed before
  pub owed_apart : (k m : ℕ) → version_at new k ≡ owed m → k ≢ key
  owed_apart k m is e = settled_not-owed value m (sym value_now ∙ ap (version_at new) (sym e) ∙ is)

  pub owed_before : (k m : ℕ) → version_at new k ≡ owed m → version_at old k ≡ owed m
  owed_before k m is = sym (ap (λ t. t.1) (told_other k (owed_apart k m is))) ∙ is

  -- each version counts as many as it did
  pub counted_still : (f g : ℕ → ℕ) → IsCounted old f → ((k : ℕ) → g k ≡ f k) → IsCounted new g
  counted_still f g counted same = counted_after old new key _ update f g counted (λ k apart. same k)
      (sym (ap uses_in found.is) ∙ counted.exact key ∙ sym (same key))
      (λ other is. let P : Node → Type 0 = λ o. 0 < o.uses in
      subst P (same_Some (record found.node { state = Settled value }) other is) (counted.live key found.node found.is))

  -- a place that owes another version fits as it did
  pub fit_still : (made frame : ℕ) (has : PlacedObject) → ((k : ℕ) → has.owes ≡ Some k → k ≢ key) → IsFit old made frame has → IsFit new made frame has
  fit_still made frame has apart fit = record {
    known = fit.known;
    present = same_object has.present ∙ fit.present;
    given = λ k e. same_object k ∙ fit.given k e;
    reads = fit.reads;
    owes = λ k e. let owing = fit.owes k e in record {
      same = same_object k ∙ owing.same;
      may = owing.may;
      by = ap (λ t. t.1) (told_other k (apart k e)) ∙ owing.by;
    };
  }
