-- Blocks of a task go on in the same task, with the same held.
use Rattle.std.proofs.Common.{◌≡◌, ℕ, suc, ◌+◌, true, false, Some, None, List, [], ◌∷◌, length, drop, slice_get, refl, sym, ap, ◌∙◌, subst, arith}
use Rattle.std.proofs.lemmas.Bool.{false≢true, true≢false}
use Rattle.std.proofs.lemmas.List.{drop_all}
use Rattle.swan_model.specs.declared.rights.Mode.{Mode}
use Rattle.job_reader.specs.Jobs.{IsPlaced, edition_of, may_stand}
use Rattle.job_reader.specs.Positions as positions
use Rattle.job_reader.specs.Positions.{is_open}
use Rattle.job_reader.specs.declared.atom.Atom.{Atom}
use Rattle.job_reader.specs.declared.block.Block.{Block}
use Rattle.job_reader.specs.declared.block.Block.TheVariants as block
use Rattle.job_reader.specs.declared.line.Edition.{Edition}
use Rattle.job_reader.specs.declared.line.Line.{Line}
use Rattle.job_reader.specs.declared.line.Line.TheVariants as line
use Rattle.job_reader.specs.declared.position.Position.{Position}
use Rattle.job_reader.specs.declared.position.Position.TheVariants.{First, Top, InTask, InDo, Outside}
use Rattle.job_body.specs.declared.block.BlockWithLine.{BlockWithLine}
use Rattle.job_body.specs.declared.block.BlockWithLine.TheVariants as opened
use Rattle.job_body.specs.declared.exit.Exit.{Exit}
use Rattle.job_body.specs.declared.scope.Scope.{Scope}
use Rattle.job_body.specs.Blocks.{blocks_after_end, blocks_after, blocks_at, exit_at, exits, exits_with, first_exit}
use Rattle.job_body.specs.Compiled.{scope_past, seen_at}
use Rattle.job_body.proofs.Known.{seen-next}
use Rattle.job_body.proofs.RightsEntries.{held_at, made_entry}
use Rattle.job_body.proofs.RightsNames.{modes}
use Rattle.job_body.proofs.RightsPlaces.{along, position_at, place-next, placed-from, take-past}
use Rattle.job_body.proofs.RightsStands.{Stands, held-same, is_task, item_of_drop, rest_of_drop, stands_here}
use Rattle.swan_model.proofs.Lists.{past_none}

-- ---- statements

-- a statement opens no task and makes nothing
pub statement : (edition : Edition) (inside : List Block) (line : Line) → may_stand edition (InDo inside) line ≡ true → (is_task line ≡ false) × (made_entry line ≡ [])
statement edition inside (line.Header named) stands = absurd (false≢true stands)
statement edition inside (line.Input name) stands = absurd (false≢true stands)
statement edition inside (line.Output name kind) stands = absurd (false≢true stands)
statement edition inside (line.Object name kind) stands = absurd (false≢true stands)
statement edition inside (line.Task name) stands = absurd (false≢true stands)
statement edition inside (line.Param name kind) stands = absurd (false≢true stands)
statement edition inside (line.Access mode name kind) stands = absurd (false≢true stands)
statement edition inside (line.Var name kind) stands = absurd (false≢true stands)
statement edition inside (line.Queue name kind) stands = absurd (false≢true stands)
statement edition inside line.Do stands = absurd (false≢true stands)
statement edition inside line stands = (refl, refl)

-- ---- loops

-- each loop goes back to a line where the same is held
abbrev pub LoopsStand : List Line → List Mode → List BlockWithLine → Type 0
LoopsStand job held [] = Unit {0}
LoopsStand job held (opened.If ∷ blocks) = LoopsStand job held blocks
LoopsStand job held (opened.While i ∷ blocks) = Stands job i held × LoopsStand job held blocks

abbrev pub BlocksStand : List Line → List Mode → List Block → List BlockWithLine → Type 0
BlocksStand job held inside blocks = (length blocks ≡ length inside) × LoopsStand job held blocks

-- the blocks that are open at a place are as many as the place says
abbrev pub BlocksAt : Position → List Line → List Mode → List BlockWithLine → Type 0
BlocksAt InTask job held blocks = blocks ≡ []
BlocksAt (InDo inside) job held blocks = BlocksStand job held inside blocks
BlocksAt _ job held blocks = Unit {0}

entered-blocks : (i : ℕ) (s : Scope) (line : Line) → (scope_past i s line).blocks ≡ blocks_after i s.blocks line
entered-blocks i s line.End = refl
entered-blocks i s line = refl

blocks-next : (job : List Line) (i : ℕ) (line : Line) → slice_get job i ≡ Some line → blocks_at job (i + 1) ≡ blocks_after i (blocks_at job i) line
blocks-next job i line is =
    ap (λ (s : Scope). s.blocks) (sym (seen-next job i line is)) ∙ entered-blocks i (seen_at job i) line

declared-blocks : (edition : Edition) (job : List Line) (held : List Mode) (i : ℕ) (blocks : List BlockWithLine) (line : Line) → may_stand edition InTask line ≡ true → blocks ≡ [] → BlocksAt (positions.after InTask line) job held (blocks_after i blocks line)
declared-blocks edition job held i blocks (line.Note text) stands none = none
declared-blocks edition job held i blocks (line.Param name kind) stands none = none
declared-blocks edition job held i blocks (line.Access mode name kind) stands none = none
declared-blocks edition job held i blocks (line.Var name kind) stands none = none
declared-blocks edition job held i blocks (line.Queue name kind) stands none = none
declared-blocks edition job held i blocks (line.Object name kind) stands none = none
declared-blocks edition job held i blocks line.Do stands none = subst (BlocksStand job held []) (sym none) (refl, tt)
declared-blocks edition job held i blocks line stands none = absurd (false≢true stands)

else-blocks : (job : List Line) (held : List Mode) (inside : List Block) (blocks : List BlockWithLine) → positions.takes_else inside ≡ true → BlocksStand job held inside blocks → BlocksAt (positions.after_else inside) job held blocks
else-blocks job held [] blocks stands b = absurd (false≢true stands)
else-blocks job held (innermost ∷ inside) blocks stands b = b

end-loops : (job : List Line) (held : List Mode) (first : BlockWithLine) (blocks : List BlockWithLine) → LoopsStand job held (first ∷ blocks) → LoopsStand job held blocks
end-loops job held opened.If blocks loops = loops
end-loops job held (opened.While i) blocks loops = loops.1

end-blocks : (job : List Line) (held : List Mode) (inside : List Block) (blocks : List BlockWithLine) → BlocksStand job held inside blocks → BlocksAt (positions.after_end inside) job held (blocks_after_end blocks)
end-blocks job held [] blocks b = tt
end-blocks job held (innermost ∷ inside) [] b = absurd (cc)
end-blocks job held (innermost ∷ inside) (first ∷ blocks) b =
    (omega (arith, b.0), end-loops job held first blocks b.1)

done-blocks : (edition : Edition) (job : List Line) (held : List Mode) (i : ℕ) (inside : List Block) (blocks : List BlockWithLine) (line : Line) → may_stand edition (InDo inside) line ≡ true → Stands job i held → BlocksStand job held inside blocks → BlocksAt (positions.after_statement inside line) job held (blocks_after i blocks line)
done-blocks edition job held i inside blocks (line.If a) stands at b = (ap suc b.0, b.1)
done-blocks edition job held i inside blocks (line.While a) stands at b = (ap suc b.0, (at, b.1))
done-blocks edition job held i inside blocks line.Else stands at b = else-blocks job held inside blocks stands b
done-blocks edition job held i inside blocks line.End stands at b = end-blocks job held inside blocks b
done-blocks edition job held i inside blocks (line.Task name) stands at b = absurd (false≢true stands)
done-blocks edition job held i inside blocks line stands at b = b

opened-blocks : (job : List Line) (held : List Mode) (n i : ℕ) (blocks : List BlockWithLine) (line : Line) → BlocksAt (positions.after_top n line) job held (blocks_after i blocks line)
opened-blocks job held n i blocks (line.Task name) = refl
opened-blocks job held n i blocks line = tt

outside-blocks : (job : List Line) (held : List Mode) (i : ℕ) (blocks : List BlockWithLine) (line : Line) → BlocksAt (positions.after_outside line) job held (blocks_after i blocks line)
outside-blocks job held i blocks (line.Task name) = refl
outside-blocks job held i blocks line = tt

-- what is held after a line: the same after a statement
blocks-step : (edition : Edition) (job : List Line) (i : ℕ) (line : Line) (place : Position) → position_at job i ≡ place → slice_get job i ≡ Some line → may_stand edition place line ≡ true → BlocksAt place job (modes (held_at job i)) (blocks_at job i) → BlocksAt (positions.after place line) job (modes (held_at job (i + 1))) (blocks_after i (blocks_at job i) line)
blocks-step edition job i line First at is stands b = tt
blocks-step edition job i line (Top n) at is stands b = opened-blocks job _ n i (blocks_at job i) line
blocks-step edition job i line Outside at is stands b = outside-blocks job _ i (blocks_at job i) line
blocks-step edition job i line InTask at is stands b = declared-blocks edition job _ i (blocks_at job i) line stands b
blocks-step edition job i line (InDo inside) at is stands b =
    let plain = statement edition inside line stands in
    let same : modes (held_at job i) ≡ modes (held_at job (i + 1)) = ap modes (sym (held-same job i line is plain.0 plain.1)) in
    let here : Stands job i (modes (held_at job i)) = record { within = ap is_open at; holds = refl } in
    subst (λ held. BlocksAt (positions.after_statement inside line) job held (blocks_after i (blocks_at job i) line)) same
    (done-blocks edition job (modes (held_at job i)) i inside (blocks_at job i) line stands here b)

drop-past : {A : Type 0} (xs : List A) (i : ℕ) → slice_get xs i ≡ None → drop (i + 1) xs ≡ drop i xs
drop-past xs i h =
    let past = past_none xs i h in
    drop_all (i + 1) xs (omega (arith, past)) ∙ sym (drop_all i xs past)

-- the blocks at each line
pub blocks-stand : (job : List Line) → IsPlaced (edition_of job) First job → (i : ℕ) → BlocksAt (position_at job i) job (modes (held_at job i)) (blocks_at job i)
blocks-stand job placed =
    along job (λ i. BlocksAt (position_at job i) job (modes (held_at job i)) (blocks_at job i)) tt
    (λ i past b. rw (take-past job i past, drop-past job i past) b)
    (λ i line is b.
    subst (λ p. BlocksAt p job (modes (held_at job (i + 1))) (blocks_at job (i + 1))) (sym (place-next job i line is))
    (subst (BlocksAt (positions.after (position_at job i) line) job (modes (held_at job (i + 1)))) (sym (blocks-next job i line is))
    (blocks-step (edition_of job) job i line (position_at job i) refl is (stands_here job i line placed is) b)))

-- ---- exits

-- each block goes on at lines where the same is held
abbrev pub ExitsStand : List Line → List Mode → List Block → List Exit → Type 0
ExitsStand job held [] exits = Unit {0}
ExitsStand job held (innermost ∷ inside) [] = ⊥
ExitsStand job held (innermost ∷ inside) (exit ∷ exits) = Stands job exit.otherwise held × Stands job exit.after held × ExitsStand job held inside exits

abbrev pub ExitsAt : Position → List Line → List Mode → List Exit → Type 0
ExitsAt (InDo inside) job held exits = ExitsStand job held inside exits
ExitsAt _ job held exits = Unit {0}

if-exits : (job : List Line) (held : List Mode) (innermost : Block) (inside : List Block) (i : ℕ) (a : Atom) (exits : List Exit) → ExitsStand job held (innermost ∷ inside) exits → ExitsStand job held inside (exits_with i (line.If a) exits)
if-exits job held innermost inside i a [] e = absurd e
if-exits job held innermost inside i a (exit ∷ exits) e = e.2

else-exits : (job : List Line) (held : List Mode) (inside : List Block) (i : ℕ) (exits : List Exit) → positions.takes_else inside ≡ true → (is_open (positions.after_else inside) ≡ true → Stands job (i + 1) held) → ExitsAt (positions.after_else inside) job held exits → ExitsStand job held inside (exits_with i line.Else exits)
else-exits job held [] i exits stands next e = tt
else-exits job held (innermost ∷ inside) i [] stands next e = absurd e
else-exits job held (innermost ∷ inside) i (exit ∷ exits) stands next e = (next refl, e.1, e.2)

end-exits : (job : List Line) (held : List Mode) (inside : List Block) (i : ℕ) (exits : List Exit) → (is_open (positions.after_end inside) ≡ true → Stands job (i + 1) held) → ExitsAt (positions.after_end inside) job held exits → ExitsStand job held inside (exits_with i line.End exits)
end-exits job held [] i exits next e = tt
end-exits job held (innermost ∷ inside) i exits next e = (next refl, next refl, e)

done-exits : (edition : Edition) (job : List Line) (held : List Mode) (inside : List Block) (i : ℕ) (line : Line) (exits : List Exit) → may_stand edition (InDo inside) line ≡ true → (is_open (positions.after_statement inside line) ≡ true → Stands job (i + 1) held) → ExitsAt (positions.after_statement inside line) job held exits → ExitsStand job held inside (exits_with i line exits)
done-exits edition job held inside i (line.If a) exits stands next e = if-exits job held block.If inside i a exits e
done-exits edition job held inside i (line.While a) exits stands next e = if-exits job held block.While inside i a exits e
done-exits edition job held inside i line.Else exits stands next e = else-exits job held inside i exits stands next e
done-exits edition job held inside i line.End exits stands next e = end-exits job held inside i exits next e
done-exits edition job held inside i (line.Task name) exits stands next e = absurd (false≢true stands)
done-exits edition job held inside i line exits stands next e = e

-- the exits of the rest of a task
exits-step : (edition : Edition) (job : List Line) (i : ℕ) (line : Line) (lines : List Line) (place : Position) → position_at job i ≡ place → slice_get job i ≡ Some line → may_stand edition place line ≡ true → ExitsAt (position_at job (i + 1)) job (modes (held_at job (i + 1))) (exits (i + 1) lines) → ExitsAt place job (modes (held_at job i)) (exits_with i line (exits (i + 1) lines))
exits-step edition job i line lines First at is stands later = tt
exits-step edition job i line lines (Top n) at is stands later = tt
exits-step edition job i line lines Outside at is stands later = tt
exits-step edition job i line lines InTask at is stands later = tt
exits-step edition job i line lines (InDo inside) at is stands later =
    let plain = statement edition inside line stands in
    let held = modes (held_at job i) in
    let same : modes (held_at job (i + 1)) ≡ held = ap modes (held-same job i line is plain.0 plain.1) in
    let next : position_at job (i + 1) ≡ positions.after_statement inside line = place-next job i line is ∙ ap (λ p. positions.after p line) at in
    let there : ExitsAt (positions.after_statement inside line) job held (exits (i + 1) lines) =
    subst (λ p. ExitsAt p job held (exits (i + 1) lines)) next (subst (λ h. ExitsAt (position_at job (i + 1)) job h (exits (i + 1) lines)) same later) in
    done-exits edition job held inside i line (exits (i + 1) lines) stands
    (λ goes. record { within = ap is_open next ∙ goes; holds = sym same }) there

never-open : (place : Position) (job : List Line) (held : List Mode) (exits : List Exit) → is_open place ≡ false → ExitsAt place job held exits
never-open First job held exits e = tt
never-open (Top n) job held exits e = tt
never-open InTask job held exits e = tt
never-open (InDo inside) job held exits e = absurd (true≢false e)
never-open Outside job held exits e = tt

pub exits-stand : (job : List Line) → IsPlaced (edition_of job) First job → (lines : List Line) (i : ℕ) → drop i job ≡ lines → ExitsAt (position_at job i) job (modes (held_at job i)) (exits i lines)
exits-stand job placed [] i rest =
    never-open (position_at job i) job _ [] (subst (IsPlaced (edition_of job) (position_at job i)) rest (placed-from (edition_of job) First job i placed))
exits-stand job placed (line ∷ lines) i rest =
    let is = item_of_drop job i line lines rest in
    exits-step (edition_of job) job i line lines (position_at job i) refl is (stands_here job i line placed is) (exits-stand job placed lines (i + 1) (rest_of_drop job i line lines rest))

first-stands : (job : List Line) (held : List Mode) (innermost : Block) (inside : List Block) (exits : List Exit) (end : ℕ) → ExitsStand job held (innermost ∷ inside) exits → Stands job (first_exit end exits).otherwise held × Stands job (first_exit end exits).after held
first-stands job held innermost inside [] end e = absurd e
first-stands job held innermost inside (exit ∷ exits) end e = (e.0, e.1)

-- how the block goes on that is open after a line
pub exit-stands : (job : List Line) (i : ℕ) (innermost : Block) (inside : List Block) (held : List Mode) → IsPlaced (edition_of job) First job → position_at job (i + 1) ≡ InDo (innermost ∷ inside) → modes (held_at job (i + 1)) ≡ held → Stands job (exit_at job i).otherwise held × Stands job (exit_at job i).after held
exit-stands job i innermost inside held placed at same =
    first-stands job held innermost inside (exits (i + 1) (drop (i + 1) job)) (length job)
    (subst (λ h. ExitsStand job h (innermost ∷ inside) (exits (i + 1) (drop (i + 1) job))) same
    (subst (λ p. ExitsAt p job (modes (held_at job (i + 1))) (exits (i + 1) (drop (i + 1) job))) at (exits-stand job placed (drop (i + 1) job) (i + 1) refl)))
