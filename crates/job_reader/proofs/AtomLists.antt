-- Atoms that are read one after another.
use Rattle.std.proofs.Common.{◌≡◌, ℕ, ◌<◌, ◌≤◌, List, [], ◌∷◌, ◌++◌, Option, Some, None, Result, Ok, Err, refl, sym, ap, ◌∙◌, append_assoc, inl, inr, ⊎_elim, arith}
use Rattle.std.proofs.Common.{◌+◌, length, get_or, drop, add-one, drop-cons}
use Rattle.std.specs.Borrow.{Bor}
use Rattle.std.specs.Prelude.{◌⊎◌}
use Rattle.std.proofs.lemmas.List.{append-nil}
use Rattle.std.proofs.lemmas.Bool.{cond-true, cond-false, le-leb, lt-leb, cases_lt}
use Rattle.job_reader.specs.Atoms.{as_list, atom, atoms}
use Rattle.job_reader.specs.Faults.{both, first_kind, named, order_of}
use Rattle.job_reader.specs.Texts.{texts}
use Rattle.job_reader.specs.declared.atom.Atom.{Atom}
use Rattle.job_reader.specs.declared.fault.JobKind.{JobKind}

-- what was read so far: items, or the first kind of fault
abbrev pub so_far : {A : Type 0} → Option JobKind → List A → Result (List A) JobKind
so_far None items = Ok items
so_far (Some k) items = Err k

-- two readings of lists, one after another
abbrev pub joined : {A : Type 0} → Result (List A) JobKind → Result (List A) JobKind → Result (List A) JobKind
joined (Ok xs) (Ok ys) = Ok (xs ++ ys)
joined (Ok xs) (Err k) = Err k
joined (Err j) (Ok ys) = Err j
joined (Err j) (Err k) = Err (first_kind j k)

left_first : (a b : JobKind) → order_of a ≤ order_of b → first_kind a b ≡ a
left_first a b h = cond-true _ a b (le-leb _ _ h)

right_first : (a b : JobKind) → order_of b < order_of a → first_kind a b ≡ b
right_first a b h = cond-false _ a b (lt-leb _ _ h)

order : (m n : ℕ) → (m ≤ n) ⊎ (n < m)
order m n = ⊎_elim (λ h. inr h) (λ h. inl h) (cases_lt n m)

-- which of three kinds is named doesn't depend on how they are paired
pub first_of_three : (a b c : JobKind) → first_kind a (first_kind b c) ≡ first_kind (first_kind a b) c
first_of_three a b c =
    ⊎_elim
    (λ (h : order_of a ≤ order_of b). ⊎_elim
    (λ (k : order_of b ≤ order_of c). ap (first_kind a) (left_first b c k) ∙ left_first a b h ∙ sym (left_first a c (omega arith)) ∙ ap (λ x. first_kind x c) (sym (left_first a b h)))
    (λ (k : order_of c < order_of b). ap (first_kind a) (right_first b c k) ∙ ap (λ x. first_kind x c) (sym (left_first a b h)))
    (order (order_of b) (order_of c)))
    (λ (h : order_of b < order_of a). ⊎_elim
    (λ (k : order_of b ≤ order_of c). ap (first_kind a) (left_first b c k) ∙ right_first a b h ∙ sym (left_first b c k) ∙ ap (λ x. first_kind x c) (sym (right_first a b h)))
    (λ (k : order_of c < order_of b). ap (first_kind a) (right_first b c k) ∙ right_first a c (omega arith) ∙ sym (right_first b c k) ∙ ap (λ x. first_kind x c) (sym (right_first a b h)))
    (order (order_of b) (order_of c)))
    (order (order_of a) (order_of b))

pub one_more : {A : Type 0} (kind : Option JobKind) (items : List A) (item : A) (rest : Result (List A) JobKind) → joined (so_far kind items) (as_list (both (Ok item) rest)) ≡ joined (so_far kind (items ++ item ∷ [])) rest
one_more None items item (Ok more) = ap (λ l. Ok l) (sym (append_assoc items (item ∷ []) more))
one_more None items item (Err k) = refl
one_more (Some j) items item (Ok more) = refl
one_more (Some j) items item (Err k) = refl

pub one_fault : {A : Type 0} (kind : Option JobKind) (items : List A) (next : JobKind) (rest : Result (List A) JobKind) → joined (so_far kind items) (as_list (both (Err next) rest)) ≡ joined (so_far (Some (named kind next)) items) rest
one_fault None items next (Ok more) = refl
one_fault None items next (Err k) = refl
one_fault (Some j) items next (Ok more) = refl
one_fault (Some j) items next (Err k) = ap (λ x. Err x) (first_of_three j next k)

pub none_more : {A : Type 0} (kind : Option JobKind) (items : List A) → joined (so_far kind items) (Ok []) ≡ so_far kind items
none_more None items = ap (λ l. Ok l) (append-nil items)
none_more (Some k) items = refl

-- the rest of the tokens from one on
pub tokens_at : (tokens : List (Bor (List ℕ))) (i : ℕ) (d : Bor (List ℕ)) → i < length tokens → texts (drop i tokens) ≡ (get_or tokens i d).now ∷ texts (drop (i + 1) tokens)
tokens_at tokens i d inside =
    let cut : drop i tokens ≡ get_or tokens i d ∷ drop (i + 1) tokens = rw (add-one, drop-cons tokens i d) in
    ap texts cut

module _ (tokens : List (Bor (List ℕ))) (i : ℕ) (d : Bor (List ℕ)) (kind : Option JobKind) (items : List Atom) (inside : i < length tokens) (told : joined (so_far kind items) (atoms (texts (drop i tokens))) ≡ atoms (texts tokens)) where
  at_token : joined (so_far kind items) (as_list (both (atom (get_or tokens i d).now) (atoms (texts (drop (i + 1) tokens))))) ≡ atoms (texts tokens)
  at_token = ap (λ rest. joined (so_far kind items) (atoms rest)) (sym (tokens_at tokens i d inside)) ∙ told

  pub turn_item : (item : Atom) (now : List Atom) → atom (get_or tokens i d).now ≡ Ok item → now ≡ items ++ item ∷ [] → joined (so_far kind now) (atoms (texts (drop (i + 1) tokens))) ≡ atoms (texts tokens)
  turn_item item now is more =
      ap (λ l. joined (so_far kind l) (atoms (texts (drop (i + 1) tokens)))) more
      ∙ sym (one_more kind items item (atoms (texts (drop (i + 1) tokens))))
      ∙ ap (λ x. joined (so_far kind items) (as_list (both x (atoms (texts (drop (i + 1) tokens)))))) (sym is)
      ∙ at_token

  pub turn_fault : (next : JobKind) (now : JobKind) → atom (get_or tokens i d).now ≡ Err next → now ≡ named kind next → joined (so_far (Some now) items) (atoms (texts (drop (i + 1) tokens))) ≡ atoms (texts tokens)
  turn_fault next now is more =
      ap (λ k. joined (so_far (Some k) items) (atoms (texts (drop (i + 1) tokens)))) more
      ∙ sym (one_fault kind items next (atoms (texts (drop (i + 1) tokens))))
      ∙ ap (λ x. joined (so_far kind items) (as_list (both x (atoms (texts (drop (i + 1) tokens)))))) (sym is)
      ∙ at_token
