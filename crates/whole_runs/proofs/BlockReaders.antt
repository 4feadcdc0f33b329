-- Tasks that read a queue to its end, and hand what they have read to children, some items at a time. The loop
-- of the tests and pops is run here once, for any such task.
use Rattle.std.proofs.Common.{◌≡◌, ℕ, ◌+◌, ◌-◌, ◌*◌, ◌≤◌, ◌<◌, true, false, List, [], ◌∷◌, ◌++◌, Option, Some, None, refl, sym, ap, subst, ◌∙◌, append_assoc, arith, length}
use Rattle.std.specs.Prelude.{slice_get}
use Rattle.swan_model.specs.declared.body.Answer.{Answer}
use Rattle.swan_model.specs.declared.body.Answer.TheVariants as answer
use Rattle.swan_model.specs.declared.body.Ask.TheVariants as ask
use Rattle.swan_model.specs.declared.body.Body.{Ghosts}
use Rattle.swan_model.specs.declared.body.Child.{Child}
use Rattle.swan_model.specs.declared.fault.Fault.{Fault}
use Rattle.swan_model.specs.declared.path.TheConstants.{PATH_MOST}
use Rattle.swan_model.specs.declared.rights.Mode.TheVariants.{Pop}
use Rattle.swan_model.specs.declared.value.Value.{Value}
use Rattle.swan_model.specs.Rights.{is_aliased}
use Rattle.swan_model.specs.SerialState.{Activation, Holding}
use Rattle.swan_model.specs.SerialStep.{number_at, given, is_nothing_left}
use Rattle.whole_runs.specs.Whole.{Contents, with_queue, given_contents, RunsWhole}
use Rattle.whole_runs.proofs.WholeSteps.{pops, tests_empty, spawns_child}

-- the task of a child
abbrev pub begun : {L : Type 0} → List ℕ → Child L → List Holding → Activation L
begun path child holdings = record { path = path; local = child.local; answer = answer.Start; fuel = child.fuel; holdings = holdings; children = 0; failed = 0 }

-- A child that is given what its parent holds, and runs whole over contents of this shape. `W` is what the contents are
-- beside the queue that is read.
pub record IsGiven {B L W : Type 0} (G : Ghosts B L) (body : B) (path : List ℕ) (holdings : List Holding) (shape : List Value → W → Contents) (does : W → Child L → W) (books : List ℕ → Child L → List Fault) (child : Child L) : Type 0 where
  pub held : List Holding
  pub holds : given holdings child.gives ≡ Some held
  pub lawful : is_aliased child.gives ≡ false
  pub whole : (n : ℕ) (xs : List Value) (w : W) → RunsWhole G body (begun (path ++ n ∷ []) child held) (given_contents (shape xs w) held) (shape xs (does w child)) (books (path ++ n ∷ []) child)

-- A task that reads a queue. Between its steps it keeps an S: `test s` is its local once it has asked whether an item is
-- left, `take s` once it has asked for an item, and `look s` once it has asked for a child. An item is kept, and
-- maybe a child is made of what is kept then.
pub record Reader {B L : Type 0} (G : Ghosts B L) (body : B) (S W : Type 0) : Type 0 where
  pub test : S → L
  pub take : S → L
  pub look : S → L
  pub path : List ℕ
  pub holdings : List Holding
  pub place : ℕ
  pub number : ℕ
  pub keeps : S → Value → S
  pub gives : S → Value → Option (Child L)
  pub shape : List Value → W → Contents
  pub does : W → Child L → W
  pub books : List ℕ → Child L → List Fault
  pub held : number_at holdings place Pop ≡ Some number
  pub shallow : length path < PATH_MOST
  pub stands : (xs : List Value) (w : W) → slice_get (shape xs w).queues number ≡ Some xs
  pub without : (x : Value) (xs : List Value) (w : W) → with_queue (shape (x ∷ xs) w) number xs ≡ shape xs w
  pub takes : (s : S) (fuel : ℕ) → G.next body (test s) (answer.Flag false) fuel ≡ (take s, ask.Pop place)
  pub goes_on : (s : S) (x : Value) (fuel : ℕ) → gives s x ≡ None → G.next body (take s) (answer.Item x) fuel ≡ (test (keeps s x), ask.Empty place)
  pub hands : (s : S) (x : Value) (child : Child L) (fuel : ℕ) → gives s x ≡ Some child → G.next body (take s) (answer.Item x) fuel ≡ (look (keeps s x), ask.Spawn child)
  pub looks : (s : S) (fuel : ℕ) → G.next body (look s) answer.Nothing fuel ≡ (test s, ask.Empty place)
  pub each : (s : S) (x : Value) (child : Child L) → gives s x ≡ Some child → IsGiven G body path holdings shape does books child

module _ {B L S W : Type 0} {G : Ghosts B L} {body : B} (r : Reader G body S W) where
  -- what is kept once all these are read
  abbrev pub last : S → List Value → S
  last s [] = s
  last s (x ∷ xs) = last (r.keeps s x) xs

  -- what one child makes of the rest of the contents, the faults that it books, what it costs
  abbrev pub by_child : Option (Child L) → W → W
  by_child None w = w
  by_child (Some child) w = r.does w child

  abbrev pub faults_of : Option (Child L) → ℕ → List Fault
  faults_of None n = []
  faults_of (Some child) n = r.books (r.path ++ n ∷ []) child

  abbrev pub cost : Option (Child L) → ℕ
  cost None = 0
  cost (Some child) = child.fuel + 1

  abbrev pub one : Option (Child L) → ℕ
  one None = 0
  one (Some child) = 1

  -- what all children make of it, their faults, their number, and what the whole loop costs
  abbrev pub made : S → List Value → W → W
  made s [] w = w
  made s (x ∷ xs) w = made (r.keeps s x) xs (by_child (r.gives s x) w)

  abbrev pub booked : S → List Value → ℕ → List Fault
  booked s [] n = []
  booked s (x ∷ xs) n = faults_of (r.gives s x) n ++ booked (r.keeps s x) xs (n + one (r.gives s x))

  abbrev pub number_made : S → List Value → ℕ
  number_made s [] = 0
  number_made s (x ∷ xs) = one (r.gives s x) + number_made (r.keeps s x) xs

  abbrev pub spent : S → List Value → ℕ
  spent s [] = 0
  spent s (x ∷ xs) = 2 + cost (r.gives s x) + spent (r.keeps s x) xs

  abbrev pub reading : L → Answer → ℕ → ℕ → ℕ → Activation L
  reading local told fuel children failed = record { path = r.path; local = local; answer = told; fuel = fuel; holdings = r.holdings; children = children; failed = failed }

  -- what is to be shown after the loop, for whatever number of failed children
  abbrev pub Rest : S → List Value → W → ℕ → ℕ → Contents → List Fault → Type 0
  Rest s items w fuel children after_it more =
      (left kids failed : ℕ) → left + spent s items ≡ fuel → kids ≡ children + number_made s items
      → RunsWhole G body (reading (r.test (last s items)) (answer.Flag true) left kids failed) (r.shape [] (made s items w)) after_it more

  tested : (s : S) (local : L) (told : Answer) (xs : List Value) (w : W) (fuel children failed : ℕ) (after_it : Contents) (fs : List Fault) → 0 < fuel → G.next body local told (fuel - 1) ≡ (r.test s, ask.Empty r.place)
      → RunsWhole G body (reading (r.test s) (answer.Flag (is_nothing_left xs)) (fuel - 1) children failed) (r.shape xs w) after_it fs → RunsWhole G body (reading local told fuel children failed) (r.shape xs w) after_it fs
  tested s local told xs w fuel children failed after_it fs paid is rest = tests_empty G paid is r.held (r.stands xs w) rest

  -- the loop over these items, from what was kept before
  abbrev pub Reads : List Value → S → Type 0
  Reads items s =
      (w : W) (fuel children failed : ℕ) (after_it : Contents) (more : List Fault) → spent s items ≤ fuel → Rest s items w fuel children after_it more
      → RunsWhole G body (reading (r.test s) (answer.Flag (is_nothing_left items)) fuel children failed) (r.shape items w) after_it (booked s items children ++ more)

  -- once the item has been popped
  popped : (x : Value) (xs : List Value) (s : S) → Reads xs (r.keeps s x) → (w : W) (fuel children failed : ℕ) (after_it : Contents) (more : List Fault) (at : Option (Child L)) → r.gives s x ≡ at → 1 + cost at + spent (r.keeps s x) xs ≤ fuel
      → ((left kids failed : ℕ) → left + (1 + cost at + spent (r.keeps s x) xs) ≡ fuel → kids ≡ children + (one at + number_made (r.keeps s x) xs)
      → RunsWhole G body (reading (r.test (last (r.keeps s x) xs)) (answer.Flag true) left kids failed) (r.shape [] (made (r.keeps s x) xs (by_child at w))) after_it more)
      → RunsWhole G body (reading (r.take s) (answer.Item x) fuel children failed) (r.shape xs w) after_it ((faults_of at children ++ booked (r.keeps s x) xs (children + one at)) ++ more)
  popped x xs s rest_of w fuel children failed after_it more None is enough rest =
      tested (r.keeps s x) (r.take s) (answer.Item x) xs w fuel children failed after_it _ (omega (arith, enough)) (r.goes_on s x (fuel - 1) is)
      (subst (λ n. RunsWhole G body (reading (r.test (r.keeps s x)) (answer.Flag (is_nothing_left xs)) (fuel - 1) children failed) (r.shape xs w) after_it (booked (r.keeps s x) xs n ++ more)) (let e : children ≡ children + 0 = omega arith in e)
      (rest_of w (fuel - 1) children failed after_it more (omega (arith, enough))
      (λ left kids last same number. rest left kids last (omega (arith, same, enough)) (omega (arith, number)))))
  popped x xs s rest_of w fuel children failed after_it more (Some child) is enough rest =
      let at = r.each s x child is in
      let now : ℕ = fuel - 1 - child.fuel in
      subst (λ fs. RunsWhole G body (reading (r.take s) (answer.Item x) fuel children failed) (r.shape xs w) after_it fs) (sym (append_assoc (r.books (r.path ++ children ∷ []) child) (booked (r.keeps s x) xs (children + 1)) more))
      (spawns_child G (omega (arith, enough)) (r.hands s x child (fuel - 1) is) at.holds at.lawful r.shallow (omega (arith, enough)) (at.whole children xs w)
      (λ last. tested (r.keeps s x) (r.look (r.keeps s x)) answer.Nothing xs (r.does w child) now (children + 1) last after_it _ (omega (arith, enough)) (r.looks (r.keeps s x) (now - 1))
      (rest_of (r.does w child) (now - 1) (children + 1) last after_it more (omega (arith, enough))
      (λ left kids count same number. rest left kids count (omega (arith, same, enough)) (omega (arith, number))))))

  pub reads_all : (items : List Value) (s : S) → Reads items s
  reads_all [] s w fuel children failed after_it more enough rest = rest fuel children failed (omega arith) (omega arith)
  reads_all (x ∷ xs) s w fuel children failed after_it more enough rest =
      pops G (omega (arith, enough)) (r.takes s (fuel - 1)) r.held (r.stands (x ∷ xs) w)
      (subst (λ c. RunsWhole G body (reading (r.take s) (answer.Item x) (fuel - 1) children failed) c after_it (booked s (x ∷ xs) children ++ more)) (sym (r.without x xs w))
      (popped x xs s (reads_all xs (r.keeps s x)) w (fuel - 1) children failed after_it more (r.gives s x) refl (omega (arith, enough))
      (λ left kids last is number. rest left kids last (omega (arith, is, enough)) number)))

  -- ---- a reader that makes no children

  module _ (none : (s : S) (x : Value) → r.gives s x ≡ None) where
    pub made_none : (items : List Value) (s : S) (w : W) → made s items w ≡ w
    made_none [] s w = refl
    made_none (x ∷ xs) s w = made_none xs (r.keeps s x) (by_child (r.gives s x) w) ∙ ap (λ o. by_child o w) (none s x)

    pub booked_none : (items : List Value) (s : S) (n : ℕ) → booked s items n ≡ []
    booked_none [] s n = refl
    booked_none (x ∷ xs) s n =
        ap (λ o. faults_of o n ++ booked (r.keeps s x) xs (n + one (r.gives s x))) (none s x)
        ∙ booked_none xs (r.keeps s x) (n + one (r.gives s x))

    pub spent_none : (items : List Value) (s : S) → spent s items ≡ 2 * length items
    spent_none [] s = refl
    spent_none (x ∷ xs) s =
        let free : cost (r.gives s x) ≡ 0 = ap cost (none s x) in
        omega (arith, free, spent_none xs (r.keeps s x))

    -- the whole loop of such a reader
    pub reads_alone : (items : List Value) (s : S) (w : W) (fuel children failed : ℕ) (after_it : Contents) (more : List Fault) → 2 * length items ≤ fuel
        → ((left kids failed : ℕ) → left + 2 * length items ≡ fuel → RunsWhole G body (reading (r.test (last s items)) (answer.Flag true) left kids failed) (r.shape [] w) after_it more)
        → RunsWhole G body (reading (r.test s) (answer.Flag (is_nothing_left items)) fuel children failed) (r.shape items w) after_it more
    reads_alone items s w fuel children failed after_it more enough rest =
        subst (λ fs. RunsWhole G body (reading (r.test s) (answer.Flag (is_nothing_left items)) fuel children failed) (r.shape items w) after_it (fs ++ more)) (booked_none items s children)
        (reads_all items s w fuel children failed after_it more (omega (arith, spent_none items s, enough))
        (λ left kids count same number.
        subst (λ v. RunsWhole G body (reading (r.test (last s items)) (answer.Flag true) left kids count) (r.shape [] v) after_it more) (sym (made_none items s w))
        (rest left kids count (omega (arith, same, spent_none items s)))))
