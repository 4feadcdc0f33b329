use Rattle.std.proofs.Common.{◌≡◌, refl, sym, ◌∙◌, length, drop, min, arith, rules, List, [], ◌∷◌, Ok, length-drop}
use Rattle.std.proofs.lemmas.Slice.Zip.{zip_end}
use Rattle.job_reader.specs.declared.atom.Atom.{Atom}
use Rattle.privilege_check.specs.Checking.{before_of}
use Rattle.privilege_check.specs.Names.{known, KnownNames}
use Rattle.privilege_check.specs.Spawns.{arguments}
use Rattle.privilege_check.specs.declared.declaration.Declaration.{Declaration}
use Rattle.privilege_check.proofs.checker.Checker.arguments.Goals as goal

nothing_left : (names : KnownNames) (takes : List Declaration) (args : List Atom) → min (length takes) (length args) ≡ 0 → arguments names takes args ≡ Ok tt
nothing_left names [] args h = refl
nothing_left names (taken ∷ takes) [] h = refl
nothing_left names (taken ∷ takes) (a ∷ args) h = absurd (omega arith)

pub returns : goal.returns
returns c =
    let takes = c.args.takes.now in
    let args = c.args.args.now in
    let turns = length c.loop-taken.yielded in
    let all : turns ≡ min (length takes) (length args) =
    zip_end takes args c.loop-taken.yielded c.into_iter-taken-iterator.result c.loop-taken.taken-iterator c.next.new.self c.next.result
    (search rules) (search rules) c.loop-taken.yielded_by c.in-None.is c.next.ensures.steps in
    let none : min (length (drop turns takes)) (length (drop turns args)) ≡ 0 =
    omega (arith, length-drop turns takes, length-drop turns args) in
    sym (nothing_left (known (before_of c.args.self.now)) (drop turns takes) (drop turns args) none) ∙ c.loop-taken.invariant
