-- The two texts that are printed of an outcome. Each line ends with a line feed, the byte 10.
use Rattle.std.specs.Prelude.{ℕ, Bool, true, false, List, [], ◌∷◌, ◌++◌, length, codes, flat_map}
use Rattle.std.specs.Fmt.{decimal, signed_decimal}
use Rattle.std.specs.List.{zip}
use Rattle.hex.specs.Hex.{encode_lower}
use Rattle.swan_model.specs.declared.fault.Fault.{Fault}
use Rattle.swan_model.specs.declared.fault.FaultKind.{FaultKind}
use Rattle.swan_model.specs.declared.fault.FaultKind.TheVariants as kind
use Rattle.swan_model.specs.declared.fault.Trouble.{Trouble}
use Rattle.swan_model.specs.declared.fault.Trouble.TheVariants as trouble
use Rattle.swan_model.specs.declared.outcome.Names.{Names}
use Rattle.swan_model.specs.declared.outcome.Outcome.{Outcome}
use Rattle.swan_model.specs.declared.outcome.Shown.{Shown}
use Rattle.swan_model.specs.declared.outcome.Shown.TheVariants as shown
use Rattle.swan_model.specs.declared.value.Value.{Value}
use Rattle.swan_model.specs.declared.value.Value.TheVariants.{Int, Bytes}

abbrev pub line : List ℕ → List ℕ
line text = text ++ 10 ∷ []

-- an item as it is written: a record as its bytes, a number as its decimal text
abbrev pub item_text : Value → List ℕ
item_text (Int number) = signed_decimal number
item_text (Bytes bytes) = bytes

-- the output has each item that is left in each queue that is shown so
abbrev pub items_shown : Shown → List Value → List ℕ
items_shown shown.Out items = flat_map (λ item. line (item_text item)) items
items_shown shown.Left items = []

abbrev pub out_bytes : Names → Outcome → List ℕ
out_bytes names outcome = flat_map (λ q. items_shown q.0.shown q.1) (zip names.queues outcome.queues)

-- an object's value in the report: a number, or bytes in lower-case hexadecimal digits
abbrev pub value_text : Value → List ℕ
value_text (Int number) = codes "int " ++ signed_decimal number
value_text (Bytes bytes) = codes "bytes " ++ encode_lower bytes

abbrev pub object_line : List ℕ × Value → List ℕ
object_line object = line (codes "object " ++ object.0 ++ codes " " ++ value_text object.1)

-- how many items are left in a queue that is shown so
abbrev pub left_line : Shown → List ℕ → List Value → List ℕ
left_line shown.Left name items = line (codes "left " ++ name ++ codes " " ++ decimal (length items))
left_line shown.Out name items = []

-- a path: / for the root, and for others / and a number for each part
abbrev pub path_text : List ℕ → List ℕ
path_text [] = codes "/"
path_text (part ∷ parts) = flat_map (λ n. codes "/" ++ decimal n) (part ∷ parts)

abbrev pub trouble_text : Trouble → List ℕ
trouble_text trouble.Overflow = codes "Overflow"
trouble_text trouble.DivideByZero = codes "DivideByZero"
trouble_text trouble.Range = codes "Range"
trouble_text trouble.TooLong = codes "TooLong"
trouble_text trouble.BadNumber = codes "BadNumber"
trouble_text (trouble.User number) = codes "User " ++ signed_decimal number

abbrev pub fault_kind_text : FaultKind → List ℕ
fault_kind_text (kind.Trouble t) = trouble_text t
fault_kind_text kind.PopEmpty = codes "PopEmpty"
fault_kind_text kind.Privilege = codes "Privilege"
fault_kind_text kind.Alias = codes "Alias"
fault_kind_text kind.Fuel = codes "Fuel"
fault_kind_text kind.Depth = codes "Depth"

abbrev pub fault_line : Fault → List ℕ
fault_line fault = line (codes "fault " ++ path_text fault.path ++ codes " " ++ decimal fault.place ++ codes " " ++ fault_kind_text fault.kind)

-- the report: the objects, the queues of which the number of items is shown, the number of faults, and the faults
abbrev pub report_bytes : Names → Outcome → List ℕ
report_bytes names outcome =
    flat_map object_line (zip names.objects outcome.objects)
    ++ flat_map (λ q. left_line q.0.shown q.0.name q.1) (zip names.queues outcome.queues)
    ++ line (codes "faults " ++ decimal (length outcome.faults))
    ++ flat_map fault_line outcome.faults

-- Whether some task of a run ended by a fault, which decides the run's status: Faulted where one did, and else Done.
abbrev pub is_some_fault : List Fault → Bool
is_some_fault [] = false
is_some_fault (fault ∷ faults) = true

abbrev pub has_fault : Outcome → Bool
has_fault outcome = is_some_fault outcome.faults
