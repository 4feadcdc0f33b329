-- What a task holds, by names: each with the mode by which it is held, in the order of the places.
use Rattle.std.proofs.Common.{◌≡◌, ℕ, suc, ◌+◌, Bool, true, false, cond, not, Option, Some, None, List, [], ◌∷◌, ◌++◌, map, bytes_eq, slice_get, inl, inr, refl, sym, ap, ◌∙◌, arith}
use Rattle.std.specs.List.{position_or_len}
use Rattle.std.proofs.lemmas.Bool.{cases_Bool}
use Rattle.std.proofs.lemmas.Option.{none-some}
use Rattle.std.proofs.lemmas.Slice.Eq.{bytes_eq-Decides}
use Rattle.swan_model.specs.declared.rights.Mode.{Mode}
use Rattle.privilege_check.specs.Names.{KnownNames}
use Rattle.privilege_check.specs.declared.declaration.Declaration.{Declaration}
use Rattle.privilege_check.specs.declared.declaration.Declaration.TheVariants.{Variable, Held}

abbrev pub Entry : Type 0
Entry = List ℕ × Mode

abbrev pub modes : List Entry → List Mode
modes entries = map (λ entry. entry.1) entries

abbrev pub names : List Entry → List (List ℕ)
names entries = map (λ entry. entry.0) entries

-- how a name is held, by its first entry
abbrev pub mode_of : List Entry → List ℕ → Option Mode
mode_of [] name = None
mode_of (entry ∷ entries) name = cond (bytes_eq entry.0 name) (Some entry.1) (mode_of entries name)

-- how a name is held, by what it stands for
abbrev pub mode_known : Option Declaration → Option Mode
mode_known None = None
mode_known (Some (Variable k)) = None
mode_known (Some (Held mode k)) = Some mode

-- the place of a name
abbrev pub position : List Entry → List ℕ → ℕ
position entries name = position_or_len (λ other. bytes_eq other name) (names entries)

pub same_name : (a b : List ℕ) → bytes_eq a b ≡ true → a ≡ b
same_name a b e = (bytes_eq-Decides a b).0 e

-- ---- one more entry

-- an entry that is put between others, of which none has its name
pub mode_of-between : (before after : List Entry) (name : List ℕ) (mode : Mode) → mode_of (before ++ after) name ≡ None → (query : List ℕ) → mode_of (before ++ (name, mode) ∷ after) query ≡ cond (bytes_eq name query) (Some mode) (mode_of (before ++ after) query)
mode_of-between [] after name mode fresh query = refl
mode_of-between ((first, held) ∷ before) after name mode fresh query =
    elim (cases_Bool (bytes_eq first query)) [
      | inl same ↦
          let apart : bytes_eq name query ≡ false = first_apart (bytes_eq first name) (bytes_eq name query) refl refl fresh same in
          rw (same, apart) refl
      | inr other ↦ rw other (mode_of-between before after name mode (rest_fresh (bytes_eq first name) fresh) query)
    ] where
      rest_fresh : (b : Bool) → cond b (Some held) (mode_of (before ++ after) name) ≡ None → mode_of (before ++ after) name ≡ None
      rest_fresh true e = absurd (none-some held (sym e))
      rest_fresh false e = e

      first_apart : (b c : Bool) → b ≡ bytes_eq first name → c ≡ bytes_eq name query → cond (bytes_eq first name) (Some held) (mode_of (before ++ after) name) ≡ None → bytes_eq first query ≡ true → c ≡ false
      first_apart b false is_b is_c e same = refl
      first_apart b true is_b is_c e same =
          let to_query : first ≡ query = same_name first query same in
          let to_name : name ≡ query = same_name name query (sym is_c) in
          let same_first : bytes_eq first name ≡ true = (bytes_eq-Decides first name).1 (to_query ∙ sym to_name) in
          absurd (none-some held (sym (ap (λ t. cond t (Some held) (mode_of (before ++ after) name)) (sym same_first) ∙ e)))

-- a name that is new, and stands for something held
pub declared-held : (before after : List Entry) (old new : KnownNames) (name : List ℕ) (mode : Mode) (meaning : Declaration) → mode_known (Some meaning) ≡ Some mode
    → ((query : List ℕ) → mode_of (before ++ after) query ≡ mode_known (old query))
    → old name ≡ None
    → ((query : List ℕ) → new query ≡ cond (bytes_eq name query) (Some meaning) (old query))
    → (query : List ℕ) → mode_of (before ++ (name, mode) ∷ after) query ≡ mode_known (new query)
declared-held before after old new name mode meaning held known fresh more query =
    mode_of-between before after name mode (known name ∙ ap mode_known fresh) query
    ∙ choice (bytes_eq name query)
    ∙ ap mode_known (sym (more query)) where
      choice : (b : Bool) → cond b (Some mode) (mode_of (before ++ after) query) ≡ mode_known (cond b (Some meaning) (old query))
      choice true = sym held
      choice false = known query

-- a name that is new, and stands for a variable
pub declared-variable : (entries : List Entry) (old new : KnownNames) (name : List ℕ) (meaning : Declaration) → mode_known (Some meaning) ≡ None
    → ((query : List ℕ) → mode_of entries query ≡ mode_known (old query))
    → old name ≡ None
    → ((query : List ℕ) → new query ≡ cond (bytes_eq name query) (Some meaning) (old query))
    → (query : List ℕ) → mode_of entries query ≡ mode_known (new query)
declared-variable entries old new name meaning variable known fresh more query =
    choice (bytes_eq name query) refl ∙ ap mode_known (sym (more query)) where
      choice : (b : Bool) → b ≡ bytes_eq name query → mode_of entries query ≡ mode_known (cond b (Some meaning) (old query))
      choice true e =
          let same : name ≡ query = same_name name query (sym e) in
          known query ∙ ap (λ n. mode_known (old n)) (sym same) ∙ ap mode_known fresh ∙ sym variable
      choice false e = known query

-- ---- the place of a name

-- at its place a name is held as its entry says
pub mode_at : (entries : List Entry) (name : List ℕ) → slice_get (modes entries) (position entries name) ≡ mode_of entries name
mode_at [] name = refl
mode_at ((first, mode) ∷ entries) name =
    elim (bytes_eq first name) as (λ b. slice_get (mode ∷ modes entries) (cond (not b) (1 + position entries name) 0) ≡ cond b (Some mode) (mode_of entries name)) [
      | true ↦ refl
      | false ↦ ap (slice_get (mode ∷ modes entries)) (one-more (position entries name)) ∙ mode_at entries name
    ] where
      one-more : (n : ℕ) → 1 + n ≡ suc n
      one-more n = omega arith

pub name_at : (entries : List Entry) (name : List ℕ) (mode : Mode) → mode_of entries name ≡ Some mode → slice_get (names entries) (position entries name) ≡ Some name
name_at [] name mode held = absurd (none-some mode held)
name_at ((first, other) ∷ entries) name mode held = go (bytes_eq first name) refl held (name_at entries name mode) where
  one-more : (n : ℕ) → 1 + n ≡ suc n
  one-more n = omega arith

  go : (b : Bool) → b ≡ bytes_eq first name → cond b (Some other) (mode_of entries name) ≡ Some mode → (mode_of entries name ≡ Some mode → slice_get (names entries) (position entries name) ≡ Some name) → slice_get (first ∷ names entries) (cond (not b) (1 + position entries name) 0) ≡ Some name
  go true e is later = ap Some (same_name first name (sym e))
  go false e is later = ap (slice_get (first ∷ names entries)) (one-more (position entries name)) ∙ later is
