-- Rights. A task holds objects and queues, each by a mode, which stands for a set of rights: In for
-- the right to read, Out to write, InOut for both; Push to push, Pop to pop, PushPop for both.
use Rattle.std.specs.Prelude.{Bool, true, false, ◌&&◌, ◌||◌, not, ◌==◌, List, [], ◌∷◌}
use Rattle.std.specs.List.{list_any}
use Rattle.swan_model.specs.declared.rights.Mode.{Mode}
use Rattle.swan_model.specs.declared.rights.Mode.TheVariants.{In, Out, InOut, Push, Pop, PushPop}
use Rattle.swan_model.specs.declared.rights.Give.{Give}

-- whether the rights of the second mode are among those of the first
abbrev pub allows : Mode → Mode → Bool
allows In In = true
allows Out Out = true
allows InOut In = true
allows InOut Out = true
allows InOut InOut = true
allows Push Push = true
allows Pop Pop = true
allows PushPop Push = true
allows PushPop Pop = true
allows PushPop PushPop = true
allows _ _ = false

-- whether it is a mode of queues, and not of objects
abbrev pub is_queue_mode : Mode → Bool
is_queue_mode Push = true
is_queue_mode Pop = true
is_queue_mode PushPop = true
is_queue_mode _ = false

abbrev pub is_in : Mode → Bool
is_in In = true
is_in _ = false

-- two gives of one child clash where they give one place, and not both only to read
abbrev pub clash : Give → Give → Bool
clash a b = (a.place == b.place) && not (is_in a.mode && is_in b.mode)

-- whether some place stands twice among the gives of one child, and not only to read
abbrev pub is_aliased : List Give → Bool
is_aliased [] = false
is_aliased (give ∷ gives) = list_any (clash give) gives || is_aliased gives
