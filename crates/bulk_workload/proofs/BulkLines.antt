-- The lines of the generated job, where its last task is given this fuel.
use Rattle.std.specs.Prelude.{ℕ, pos, List, [], ◌∷◌, codes}
use Rattle.job_reader.specs.declared.atom.Atom.TheVariants as atom
use Rattle.job_reader.specs.declared.line.Edition.TheVariants.{One}
use Rattle.job_reader.specs.declared.line.Line.{Line}
use Rattle.job_reader.specs.declared.line.Line.TheVariants as line
use Rattle.job_reader.specs.declared.op.Op.TheVariants as op
use Rattle.swan_model.specs.declared.rights.Mode.TheVariants as mode
use Rattle.swan_model.specs.declared.value.Kind.TheVariants as kind

abbrev pub bulk_lines : ℕ → List Line
bulk_lines fuel =
    line.Header One
    ∷ line.Input (codes "lines")
    ∷ line.Output (codes "summary") kind.Int
    ∷ line.Object (codes "total") kind.Int
    ∷ line.Object (codes "count") kind.Int
    ∷ line.Task (codes "parse")
    ∷ line.Param (codes "block") kind.Bytes
    ∷ line.Access mode.Push (codes "nums") kind.Int
    ∷ line.Var (codes "from") kind.Int
    ∷ line.Var (codes "to") kind.Int
    ∷ line.Var (codes "piece") kind.Bytes
    ∷ line.Var (codes "n") kind.Int
    ∷ line.Var (codes "size") kind.Int
    ∷ line.Var (codes "more") kind.Int
    ∷ line.Do
    ∷ line.Assign (codes "size") op.Len (atom.Name (codes "block") ∷ [])
    ∷ line.Assign (codes "more") op.Lt (atom.Name (codes "from") ∷ atom.Name (codes "size") ∷ [])
    ∷ line.While (atom.Name (codes "more"))
    ∷ line.Assign (codes "to") op.Find (atom.Name (codes "block") ∷ atom.Int (pos 32) ∷ atom.Name (codes "from") ∷ [])
    ∷ line.Assign (codes "piece") op.Slice (atom.Name (codes "block") ∷ atom.Name (codes "from") ∷ atom.Name (codes "to") ∷ [])
    ∷ line.Assign (codes "n") op.Num (atom.Name (codes "piece") ∷ [])
    ∷ line.Push (codes "nums") (atom.Name (codes "n"))
    ∷ line.Assign (codes "from") op.Add (atom.Name (codes "to") ∷ atom.Int (pos 1) ∷ [])
    ∷ line.Assign (codes "more") op.Lt (atom.Name (codes "from") ∷ atom.Name (codes "size") ∷ [])
    ∷ line.End
    ∷ line.End
    ∷ line.Task (codes "fold")
    ∷ line.Access mode.Pop (codes "nums") kind.Int
    ∷ line.Access mode.Out (codes "total") kind.Int
    ∷ line.Access mode.Out (codes "count") kind.Int
    ∷ line.Access mode.Push (codes "summary") kind.Int
    ∷ line.Var (codes "n") kind.Int
    ∷ line.Var (codes "sum") kind.Int
    ∷ line.Var (codes "items") kind.Int
    ∷ line.Var (codes "none") kind.Int
    ∷ line.Var (codes "more") kind.Int
    ∷ line.Do
    ∷ line.Empty (codes "none") (codes "nums")
    ∷ line.Assign (codes "more") op.Not (atom.Name (codes "none") ∷ [])
    ∷ line.While (atom.Name (codes "more"))
    ∷ line.Pop (codes "n") (codes "nums")
    ∷ line.Assign (codes "sum") op.Add (atom.Name (codes "sum") ∷ atom.Name (codes "n") ∷ [])
    ∷ line.Assign (codes "items") op.Add (atom.Name (codes "items") ∷ atom.Int (pos 1) ∷ [])
    ∷ line.Empty (codes "none") (codes "nums")
    ∷ line.Assign (codes "more") op.Not (atom.Name (codes "none") ∷ [])
    ∷ line.End
    ∷ line.Write (codes "total") (atom.Name (codes "sum"))
    ∷ line.Write (codes "count") (atom.Name (codes "items"))
    ∷ line.Push (codes "summary") (atom.Name (codes "sum"))
    ∷ line.Push (codes "summary") (atom.Name (codes "items"))
    ∷ line.End
    ∷ line.Task (codes "main")
    ∷ line.Queue (codes "nums") kind.Int
    ∷ line.Var (codes "block") kind.Bytes
    ∷ line.Var (codes "line") kind.Bytes
    ∷ line.Var (codes "held") kind.Int
    ∷ line.Var (codes "none") kind.Int
    ∷ line.Var (codes "more") kind.Int
    ∷ line.Var (codes "full") kind.Int
    ∷ line.Do
    ∷ line.Empty (codes "none") (codes "lines")
    ∷ line.Assign (codes "more") op.Not (atom.Name (codes "none") ∷ [])
    ∷ line.While (atom.Name (codes "more"))
    ∷ line.Pop (codes "line") (codes "lines")
    ∷ line.Assign (codes "block") op.Cat (atom.Name (codes "block") ∷ atom.Name (codes "line") ∷ [])
    ∷ line.Assign (codes "block") op.Cat (atom.Name (codes "block") ∷ atom.Bytes (codes " ") ∷ [])
    ∷ line.Assign (codes "held") op.Add (atom.Name (codes "held") ∷ atom.Int (pos 1) ∷ [])
    ∷ line.Assign (codes "full") op.Eq (atom.Name (codes "held") ∷ atom.Int (pos 100) ∷ [])
    ∷ line.If (atom.Name (codes "full"))
    ∷ line.Spawn (atom.Int (pos 1000)) (codes "parse") (atom.Name (codes "block") ∷ atom.Name (codes "nums") ∷ [])
    ∷ line.Assign (codes "block") op.Set (atom.Bytes (codes "") ∷ [])
    ∷ line.Assign (codes "held") op.Set (atom.Int (pos 0) ∷ [])
    ∷ line.End
    ∷ line.Empty (codes "none") (codes "lines")
    ∷ line.Assign (codes "more") op.Not (atom.Name (codes "none") ∷ [])
    ∷ line.End
    ∷ line.Spawn (atom.Int (pos 1000)) (codes "parse") (atom.Name (codes "block") ∷ atom.Name (codes "nums") ∷ [])
    ∷ line.Spawn (atom.Int (pos fuel)) (codes "fold") (atom.Name (codes "nums") ∷ atom.Name (codes "total") ∷ atom.Name (codes "count") ∷ atom.Name (codes "summary") ∷ [])
    ∷ line.End
    ∷ []
