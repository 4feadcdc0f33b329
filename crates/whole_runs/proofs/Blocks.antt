-- Tasks that read a queue to its end in blocks of a number of items: each full block is given to a child, and at the
-- end so is what is left. The whole loop, with its last child, is run here once for any such task.
use Rattle.std.proofs.Common.{◌≡◌, ℕ, ◌+◌, ◌-◌, ◌*◌, ◌≤◌, ◌<◌, Bool, true, false, cond, nat_eq, List, [], ◌∷◌, ◌++◌, Option, Some, None, refl, sym, ap, subst, ◌∙◌, append_assoc, add-mul, arith, rules, tests, length, length-append}
use Rattle.std.proofs.lemmas.List.{append-nil}
use Rattle.std.specs.Prelude.{slice_get}
use Rattle.swan_model.specs.declared.body.Answer.{Answer}
use Rattle.swan_model.specs.declared.body.Answer.TheVariants as answer
use Rattle.swan_model.specs.declared.body.Ask.{Ask}
use Rattle.swan_model.specs.declared.body.Ask.TheVariants as ask
use Rattle.swan_model.specs.declared.body.Body.{Ghosts}
use Rattle.swan_model.specs.declared.body.Child.{Child}
use Rattle.swan_model.specs.declared.fault.Fault.{Fault}
use Rattle.swan_model.specs.declared.path.TheConstants.{PATH_MOST}
use Rattle.swan_model.specs.declared.rights.Mode.TheVariants.{Pop}
use Rattle.swan_model.specs.declared.value.Value.{Value}
use Rattle.swan_model.specs.SerialState.{Holding}
use Rattle.swan_model.specs.SerialStep.{number_at, is_nothing_left}
use Rattle.whole_runs.specs.Whole.{Contents, with_queue, RunsWhole}
use Rattle.whole_runs.proofs.BlockReaders.{Reader, IsGiven, reads_all, last, made, booked, number_made, spent, by_child, faults_of, cost, one, reading}
use Rattle.whole_runs.proofs.Wholes.{ends_so}
use Rattle.whole_runs.proofs.WholeSteps.{spawns_child}

-- what was read before the block that is held, and what is held of it
pub record Held : Type 0 where
  pub before : List Value
  pub held : List Value

-- `block before items` is the child of a block, by all that was read before it. `test`, `take` and `look` are as for each
-- reader; `rest` is the local once the last block has been spawned, and `finale` what the task does
-- after that, both by all that was read.
pub record BlockTask {B L : Type 0} (G : Ghosts B L) (body : B) (W : Type 0) : Type 0 where
  pub test : Held → L
  pub take : Held → L
  pub look : Held → L
  pub rest : List Value → L
  pub finale : List Value → L × Ask L
  pub path : List ℕ
  pub holdings : List Holding
  pub place : ℕ
  pub number : ℕ
  pub size : ℕ
  pub block : List Value → List Value → Child L
  pub shape : List Value → W → Contents
  pub does : W → Child L → W
  pub books : List ℕ → Child L → List Fault
  pub held : number_at holdings place Pop ≡ Some number
  pub shallow : length path < PATH_MOST
  pub stands : (xs : List Value) (w : W) → slice_get (shape xs w).queues number ≡ Some xs
  pub without : (x : Value) (xs : List Value) (w : W) → with_queue (shape (x ∷ xs) w) number xs ≡ shape xs w
  pub takes : (k : Held) (fuel : ℕ) → G.next body (test k) (answer.Flag false) fuel ≡ (take k, ask.Pop place)
  pub holds : (k : Held) (x : Value) (fuel : ℕ) → nat_eq (length k.held + 1) size ≡ false
      → G.next body (take k) (answer.Item x) fuel ≡ (test (record { before = k.before; held = k.held ++ x ∷ [] }), ask.Empty place)
  pub hands : (k : Held) (x : Value) (fuel : ℕ) → nat_eq (length k.held + 1) size ≡ true
      → G.next body (take k) (answer.Item x) fuel ≡ (look (record { before = k.before ++ (k.held ++ x ∷ []); held = [] }), ask.Spawn (block k.before (k.held ++ x ∷ [])))
  pub looks : (k : Held) (fuel : ℕ) → G.next body (look k) answer.Nothing fuel ≡ (test k, ask.Empty place)
  pub ends : (before : List Value) (fuel : ℕ) → G.next body (test (record { before = before; held = [] })) (answer.Flag true) fuel ≡ finale before
  pub hands_rest : (before : List Value) (x : Value) (xs : List Value) (fuel : ℕ) → G.next body (test (record { before = before; held = x ∷ xs })) (answer.Flag true) fuel ≡ (rest (before ++ x ∷ xs), ask.Spawn (block before (x ∷ xs)))
  pub rests : (all : List Value) (fuel : ℕ) → G.next body (rest all) answer.Nothing fuel ≡ finale all
  pub each : (before items : List Value) → IsGiven G body path holdings shape does books (block before items)

module _ {B L W : Type 0} {G : Ghosts B L} {body : B} (t : BlockTask G body W) where
  abbrev pub given_if : Bool → Held → Value → Option (Child L)
  given_if full k x = cond full (Some (t.block k.before (k.held ++ x ∷ []))) None

  abbrev pub kept_if : Bool → Held → Value → Held
  kept_if full k x = cond full (record { before = k.before ++ (k.held ++ x ∷ []); held = [] }) (record { before = k.before; held = k.held ++ x ∷ [] })

  abbrev pub is_full : Held → Bool
  is_full k = nat_eq (length k.held + 1) t.size

  pub each_if : (full : Bool) (k : Held) (x : Value) (child : Child L) → given_if full k x ≡ Some child → IsGiven G body t.path t.holdings t.shape t.does t.books child
  each_if true k x child is = let e : t.block k.before (k.held ++ x ∷ []) ≡ child = cc in subst (IsGiven G body t.path t.holdings t.shape t.does t.books) e (t.each k.before (k.held ++ x ∷ []))
  each_if false k x child is = absurd (cc)

  pub holds_if : (full : Bool) (k : Held) (x : Value) (fuel : ℕ) → is_full k ≡ full → given_if full k x ≡ None → G.next body (t.take k) (answer.Item x) fuel ≡ (t.test (kept_if full k x), ask.Empty t.place)
  holds_if true k x fuel is none = absurd (cc)
  holds_if false k x fuel is none = t.holds k x fuel is

  pub hands_if : (full : Bool) (k : Held) (x : Value) (child : Child L) (fuel : ℕ) → is_full k ≡ full → given_if full k x ≡ Some child → G.next body (t.take k) (answer.Item x) fuel ≡ (t.look (kept_if full k x), ask.Spawn child)
  hands_if true k x child fuel is some =
      let e : t.block k.before (k.held ++ x ∷ []) ≡ child = cc in
      t.hands k x fuel is ∙ ap {B = L × Ask L} (λ c. (t.look (kept_if true k x), ask.Spawn c)) e
  hands_if false k x child fuel is some = absurd (cc)

  abbrev pub reader : Reader G body Held W
  reader = record {
    test = t.test;
    take = t.take;
    look = t.look;
    path = t.path;
    holdings = t.holdings;
    place = t.place;
    number = t.number;
    keeps = λ k x. kept_if (is_full k) k x;
    gives = λ k x. given_if (is_full k) k x;
    shape = t.shape;
    does = t.does;
    books = t.books;
    held = t.held;
    shallow = t.shallow;
    stands = t.stands;
    without = t.without;
    takes = t.takes;
    goes_on = λ k x fuel is. holds_if (is_full k) k x fuel refl is;
    hands = λ k x child fuel is. hands_if (is_full k) k x child fuel refl is;
    looks = t.looks;
    each = λ k x child is. each_if (is_full k) k x child is;
  }

  -- the children, in order, with the last one
  abbrev pub last_block : List Value → List Value → List (Child L)
  last_block before [] = []
  last_block before (x ∷ xs) = t.block before (x ∷ xs) ∷ []

  abbrev pub with_block : Option (Child L) → List (Child L) → List (Child L)
  with_block None rest = rest
  with_block (Some child) rest = child ∷ rest

  abbrev pub blocks : Held → List Value → List (Child L)
  blocks k [] = last_block k.before k.held
  blocks k (x ∷ xs) = with_block (given_if (is_full k) k x) (blocks (kept_if (is_full k) k x) xs)

  -- what these children do, one after the other, which faults they book, and what they cost
  abbrev pub all_do : W → List (Child L) → W
  all_do w [] = w
  all_do w (child ∷ rest) = all_do (t.does w child) rest

  abbrev pub all_book : ℕ → List (Child L) → List Fault
  all_book n [] = []
  all_book n (child ∷ rest) = t.books (t.path ++ n ∷ []) child ++ all_book (n + 1) rest

  abbrev pub all_cost : List (Child L) → ℕ
  all_cost [] = 0
  all_cost (child ∷ rest) = child.fuel + 1 + all_cost rest

  -- ---- the children of the loop, and then the last one

  do_one : (at : Option (Child L)) (w : W) (rest : List (Child L)) → all_do w (with_block at rest) ≡ all_do (by_child reader at w) rest
  do_one None w rest = refl
  do_one (Some child) w rest = refl

  all_do-are : (items : List Value) (k : Held) (w : W) → let end = last reader k items in all_do w (blocks k items) ≡ all_do (made reader k items w) (last_block end.before end.held)
  all_do-are [] k w = refl
  all_do-are (x ∷ xs) k w = do_one (given_if (is_full k) k x) w (blocks (kept_if (is_full k) k x) xs) ∙ all_do-are xs (kept_if (is_full k) k x) (by_child reader (given_if (is_full k) k x) w)

  book_one : (at : Option (Child L)) (n : ℕ) (rest : List (Child L)) → all_book n (with_block at rest) ≡ faults_of reader at n ++ all_book (n + one reader at) rest
  book_one None n rest = ap (λ m. all_book m rest) (let e : n ≡ n + 0 = omega arith in e)
  book_one (Some child) n rest = refl

  all_book-are : (items : List Value) (k : Held) (n : ℕ) → let end = last reader k items in all_book n (blocks k items) ≡ booked reader k items n ++ all_book (n + number_made reader k items) (last_block end.before end.held)
  all_book-are [] k n = ap (λ m. all_book m (last_block k.before k.held)) (let e : n ≡ n + 0 = omega arith in e)
  all_book-are (x ∷ xs) k n =
      let at = given_if (is_full k) k x in
      let now = kept_if (is_full k) k x in
      let end = last reader now xs in
      book_one at n (blocks now xs)
      ∙ ap (λ fs. faults_of reader at n ++ fs) (all_book-are xs now (n + one reader at)
      ∙ ap (λ m. booked reader now xs (n + one reader at) ++ all_book m (last_block end.before end.held)) (let e : n + one reader at + number_made reader now xs ≡ n + (one reader at + number_made reader now xs) = omega arith in e))
      ∙ sym (append_assoc (faults_of reader at n) (booked reader now xs (n + one reader at)) _)

  cost_one : (at : Option (Child L)) (rest : List (Child L)) → all_cost (with_block at rest) ≡ cost reader at + all_cost rest
  cost_one None rest = omega arith
  cost_one (Some child) rest = omega arith

  all_cost-are : (items : List Value) (k : Held) → let end = last reader k items in 2 * length items + all_cost (blocks k items) ≡ spent reader k items + all_cost (last_block end.before end.held)
  all_cost-are [] k = omega arith
  all_cost-are (x ∷ xs) k =
      omega (arith, cost_one (given_if (is_full k) k x) (blocks (kept_if (is_full k) k x) xs), all_cost-are xs (kept_if (is_full k) k x))

  number_one : (at : Option (Child L)) (rest : List (Child L)) → length (with_block at rest) ≡ one reader at + length rest
  number_one None rest = omega arith
  number_one (Some child) rest = omega arith

  number-are : (items : List Value) (k : Held) → let end = last reader k items in length (blocks k items) ≡ number_made reader k items + length (last_block end.before end.held)
  number-are [] k = omega arith
  number-are (x ∷ xs) k =
      omega (arith, number_one (given_if (is_full k) k x) (blocks (kept_if (is_full k) k x) xs), number-are xs (kept_if (is_full k) k x))

  -- all that was read is before the block that is held, or held
  all_read : (items : List Value) (k : Held) → (last reader k items).before ++ (last reader k items).held ≡ k.before ++ (k.held ++ items)
  all_read [] k = ap (λ v. k.before ++ v) (sym (append-nil k.held))
  all_read (x ∷ xs) k = by_case (is_full k) (all_read xs)
    where
      by_case : (full : Bool) → ((now : Held) → (last reader now xs).before ++ (last reader now xs).held ≡ now.before ++ (now.held ++ xs)) → (last reader (kept_if full k x) xs).before ++ (last reader (kept_if full k x) xs).held ≡ k.before ++ (k.held ++ x ∷ xs)
      by_case true rest = rest (kept_if true k x) ∙ append_assoc k.before (k.held ++ x ∷ []) xs ∙ ap (λ v. k.before ++ v) (append_assoc k.held (x ∷ []) xs)
      by_case false rest = rest (kept_if false k x) ∙ ap (λ v. k.before ++ v) (append_assoc k.held (x ∷ []) xs)

  -- What is to be shown once all blocks have run: the task does its finale next, as the ask of some step, with whatever number
  -- of failed children.
  abbrev pub Finale : List Value → W → ℕ → ℕ → Contents → List Fault → Type 0
  Finale all w fuel kids after_it more =
      (local : L) (told : Answer) (failed : ℕ) → ((left : ℕ) → G.next body local told left ≡ t.finale all) → RunsWhole G body (reading reader local told fuel kids failed) (t.shape [] w) after_it more

  at_end : (before held : List Value) (w : W) (fuel kids failed : ℕ) (after_it : Contents) (more : List Fault) → all_cost (last_block before held) ≤ fuel
      → Finale (before ++ held) (all_do w (last_block before held)) (fuel - all_cost (last_block before held)) (kids + length (last_block before held)) after_it more
      → RunsWhole G body (reading reader (t.test (record { before = before; held = held })) (answer.Flag true) fuel kids failed) (t.shape [] w) after_it (all_book kids (last_block before held) ++ more)
  at_end before [] w fuel kids failed after_it more enough rest =
      let local = t.test (record { before = before; held = [] }) in
      subst (λ n. RunsWhole G body (reading reader local (answer.Flag true) fuel n failed) (t.shape [] w) after_it more) (let e : kids + 0 ≡ kids = omega arith in e)
      (subst (λ n. RunsWhole G body (reading reader local (answer.Flag true) n (kids + 0) failed) (t.shape [] w) after_it more) (let e : fuel - 0 ≡ fuel = omega arith in e)
      (rest local (answer.Flag true) failed (λ now. t.ends before now ∙ ap t.finale (sym (append-nil before)))))
  at_end before (x ∷ xs) w fuel kids failed after_it more enough rest =
      let child = t.block before (x ∷ xs) in
      let at = t.each before (x ∷ xs) in
      ends_so G refl (ap (λ fs. fs ++ more) (sym (append-nil (t.books (t.path ++ kids ∷ []) child))))
      (spawns_child G (omega (arith, enough)) (t.hands_rest before x xs (fuel - 1)) at.holds at.lawful t.shallow (omega (arith, enough)) (at.whole kids [] w)
      (λ last. subst (λ n. RunsWhole G body (reading reader (t.rest (before ++ x ∷ xs)) answer.Nothing n (kids + 1) last) (t.shape [] (t.does w child)) after_it more) (let e : fuel - (child.fuel + 1 + 0) ≡ fuel - 1 - child.fuel = omega arith in e)
      (rest (t.rest (before ++ x ∷ xs)) answer.Nothing last (t.rests (before ++ x ∷ xs)))))

  -- the loop with all its children, from where nothing is held
  pub runs_blocks : (items : List Value) (k : Held) (w : W) (fuel kids failed : ℕ) (after_it : Contents) (more : List Fault) → 2 * length items + all_cost (blocks k items) ≤ fuel
      → ((left : ℕ) → left + 2 * length items + all_cost (blocks k items) ≡ fuel → Finale (k.before ++ (k.held ++ items)) (all_do w (blocks k items)) left (kids + length (blocks k items)) after_it more)
      → RunsWhole G body (reading reader (t.test k) (answer.Flag (is_nothing_left items)) fuel kids failed) (t.shape items w) after_it (all_book kids (blocks k items) ++ more)
  runs_blocks items k w fuel kids failed after_it more enough rest =
      let end = last reader k items in
      let tail = last_block end.before end.held in
      let costs = all_cost-are items k in
      ends_so G refl (sym (append_assoc (booked reader k items kids) (all_book (kids + number_made reader k items) tail) more) ∙ ap (λ fs. fs ++ more) (sym (all_book-are items k kids)))
      (reads_all reader items k w fuel kids failed after_it (all_book (kids + number_made reader k items) tail ++ more) (omega (arith, enough, costs))
      (λ left now count same number.
      subst (λ n. RunsWhole G body (reading reader (t.test end) (answer.Flag true) left n count) (t.shape [] (made reader k items w)) after_it (all_book (kids + number_made reader k items) tail ++ more)) (sym number)
      (at_end end.before end.held (made reader k items w) left (kids + number_made reader k items) count after_it more (omega (arith, enough, costs, same))
      (λ local told last is.
      let all : ℕ = kids + length (blocks k items) in
      let are : all ≡ kids + number_made reader k items + length tail = omega (arith, number-are items k) in
      subst (λ n. RunsWhole G body (reading reader local told (left - all_cost tail) n last) (t.shape [] (all_do (made reader k items w) tail)) after_it more) are
      (subst (λ v. RunsWhole G body (reading reader local told (left - all_cost tail) all last) (t.shape [] v) after_it more) (all_do-are items k w)
      (rest (left - all_cost tail) (omega (arith, costs, same, enough)) local told last (λ now. is now ∙ ap t.finale (all_read items k))))))))

  -- ---- what all blocks do, from what they do in one piece

  -- of what is seen of the contents: where one block acts on it, and two pieces act as the one that they are together
  module _ {X : Type 0} (seen : W → X) (acts : X → List Value → List Value → X)
      (one_acts : (before items : List Value) (w : W) → seen (t.does w (t.block before items)) ≡ acts (seen w) before items)
      (none_acts : (x : X) (before : List Value) → acts x before [] ≡ x)
      (both_act : (x : X) (before xs ys : List Value) → acts (acts x before xs) (before ++ xs) ys ≡ acts x before (xs ++ ys)) where
    pub seen_of_blocks : (items : List Value) (k : Held) (w : W) → seen (all_do w (blocks k items)) ≡ acts (seen w) k.before (k.held ++ items)
    seen_of_blocks [] k w = last_one k.held ∙ ap (acts (seen w) k.before) (sym (append-nil k.held))
      where
        last_one : (held : List Value) → seen (all_do w (last_block k.before held)) ≡ acts (seen w) k.before held
        last_one [] = sym (none_acts (seen w) k.before)
        last_one (x ∷ xs) = one_acts k.before (x ∷ xs) w
    seen_of_blocks (x ∷ xs) k w = by_case (is_full k) (seen_of_blocks xs)
      where
        by_case : (full : Bool) → ((now : Held) (v : W) → seen (all_do v (blocks now xs)) ≡ acts (seen v) now.before (now.held ++ xs)) → seen (all_do w (with_block (given_if full k x) (blocks (kept_if full k x) xs))) ≡ acts (seen w) k.before (k.held ++ x ∷ xs)
        by_case true rest =
            rest (kept_if true k x) (t.does w (t.block k.before (k.held ++ x ∷ [])))
            ∙ ap (λ v. acts v (k.before ++ (k.held ++ x ∷ [])) xs) (one_acts k.before (k.held ++ x ∷ []) w)
            ∙ both_act (seen w) k.before (k.held ++ x ∷ []) xs
            ∙ ap (acts (seen w) k.before) (append_assoc k.held (x ∷ []) xs)
        by_case false rest = rest (kept_if false k x) w ∙ ap (acts (seen w) k.before) (append_assoc k.held (x ∷ []) xs)

  -- of what they cost
  module _ (most : List Value → ℕ) (one_costs : (before : List Value) (x : Value) (xs : List Value) → (t.block before (x ∷ xs)).fuel + 1 ≤ most (x ∷ xs))
      (both_cost : (xs ys : List Value) → most xs + most ys ≤ most (xs ++ ys)) where
    one_more_costs : (before held : List Value) (x : Value) → (t.block before (held ++ x ∷ [])).fuel + 1 ≤ most (held ++ x ∷ [])
    one_more_costs before [] x = one_costs before x []
    one_more_costs before (y ∷ ys) x = one_costs before y (ys ++ x ∷ [])

    pub cost_of_blocks : (items : List Value) (k : Held) → all_cost (blocks k items) ≤ most (k.held ++ items)
    cost_of_blocks [] k = subst (λ xs. all_cost (last_block k.before k.held) ≤ most xs) (sym (append-nil k.held)) (last_one k.held)
      where
        last_one : (held : List Value) → all_cost (last_block k.before held) ≤ most held
        last_one [] = omega arith
        last_one (x ∷ xs) = omega (arith, one_costs k.before x xs)
    cost_of_blocks (x ∷ xs) k = subst (λ ys. all_cost (blocks k (x ∷ xs)) ≤ most ys) (append_assoc k.held (x ∷ []) xs) (by_case (is_full k) (cost_of_blocks xs))
      where
        by_case : (full : Bool) → ((now : Held) → all_cost (blocks now xs) ≤ most (now.held ++ xs)) → all_cost (with_block (given_if full k x) (blocks (kept_if full k x) xs)) ≤ most ((k.held ++ x ∷ []) ++ xs)
        by_case true rest = omega (arith, rest (kept_if true k x), one_more_costs k.before k.held x, both_cost (k.held ++ x ∷ []) xs)
        by_case false rest = rest (kept_if false k x)

  -- of what they book, where a fault tells the number of its block
  module _ (books_at : List Value → List Value → List Fault)
      (one_books : (n : ℕ) (before items : List Value) → n * t.size ≡ length before → length items ≤ t.size → t.books (t.path ++ n ∷ []) (t.block before items) ≡ books_at before items)
      (none_book : (before : List Value) → books_at before [] ≡ [])
      (both_book : (before xs ys : List Value) → books_at before xs ++ books_at (before ++ xs) ys ≡ books_at before (xs ++ ys)) where
    last_book : (n : ℕ) (before held : List Value) → n * t.size ≡ length before → length held < t.size → all_book n (last_block before held) ≡ books_at before held
    last_book n before [] begins short = sym (none_book before)
    last_book n before (x ∷ xs) begins short = append-nil (t.books (t.path ++ n ∷ []) (t.block before (x ∷ xs))) ∙ one_books n before (x ∷ xs) begins (omega (arith, short))

    abbrev pub Books : List Value → Type 0
    Books xs = (now : Held) (m : ℕ) → m * t.size ≡ length now.before → length now.held < t.size → all_book m (blocks now xs) ≡ books_at now.before (now.held ++ xs)

    book_more : (full : Bool) (x : Value) (xs : List Value) (k : Held) (n : ℕ) → is_full k ≡ full → Books xs → n * t.size ≡ length k.before → length k.held < t.size
        → all_book n (with_block (given_if full k x) (blocks (kept_if full k x) xs)) ≡ books_at k.before ((k.held ++ x ∷ []) ++ xs)
    book_more true x xs k n is rest begins short =
        let items = k.held ++ x ∷ [] in
        let longer : length items ≡ length k.held + 1 = omega (arith, length-append k.held (x ∷ [])) in
        let all : length k.held + 1 ≡ t.size = search (rules, tests) in
        let next : (n + 1) * t.size ≡ length (k.before ++ items) = omega (arith, add-mul n 1 t.size, length-append k.before items, longer, all, begins) in
        ap (λ fs. fs ++ all_book (n + 1) (blocks (kept_if true k x) xs)) (one_books n k.before items begins (omega (arith, longer, short)))
        ∙ ap (λ fs. books_at k.before items ++ fs) (rest (kept_if true k x) (n + 1) next (omega (arith, short)))
        ∙ both_book k.before items xs
    book_more false x xs k n is rest begins short =
        let longer : length (k.held ++ x ∷ []) ≡ length k.held + 1 = omega (arith, length-append k.held (x ∷ [])) in
        let differ : (length k.held + 1 ≡ t.size) → ⊥ = search (rules, tests) in
        rest (kept_if false k x) n begins (omega (arith, longer, short, differ))

    pub faults_of_blocks : (items : List Value) (k : Held) (n : ℕ) → n * t.size ≡ length k.before → length k.held < t.size → all_book n (blocks k items) ≡ books_at k.before (k.held ++ items)
    faults_of_blocks [] k n begins short = last_book n k.before k.held begins short ∙ ap (books_at k.before) (sym (append-nil k.held))
    faults_of_blocks (x ∷ xs) k n begins short =
        book_more (is_full k) x xs k n refl (faults_of_blocks xs) begins short ∙ ap (books_at k.before) (append_assoc k.held (x ∷ []) xs)
