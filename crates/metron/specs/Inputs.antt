-- What the files of a command have to hold. What a file holds is `None` where it is not told; then
-- nothing is said of it.
use Rattle.std.specs.Prelude.{◌≡◌, ◌<◌, ◌≤◌, ℕ, ◌+◌, ◌==◌, nat_le, Bool, true, false, List, [], ◌∷◌, length, map, take, slice_get, Option, Some, None, Result, Ok, Err, IfSome, ⊤}
use Rattle.std.specs.List.{list_any}
use Rattle.mt_io.specs.Files.{Rose}
use Rattle.mt_graph.specs.declared.Graph.{Graph}
use Rattle.mt_syntax.specs.Position.{located}
use Rattle.mt_syntax.specs.declared.fault.Fault.{Fault as TextFault}
use Rattle.mt_syntax.specs.declared.fault.ClickFault.{ClickFault}
use Rattle.mt_click.specs.Graphs.{IsGraph, IsFault}
use Rattle.mt_kinds.specs.declared.kind.Kind.{Kind}
use Rattle.mt_kinds.specs.declared.kind.Kind.TheVariants.{ToDevice}
use Rattle.mt_elements.specs.declared.fault.ChainFault.{ChainFault}
use Rattle.mt_elements.specs.ChainState.{ChainState}
use Rattle.mt_elements.specs.Described.{IsChainOf}
use Rattle.mt_elements.specs.Accepted.{IsAccepted}
use Rattle.mt_elements.specs.Refused as refusals
use Rattle.mt_trees.specs.Elements.{tree_of}
use Rattle.mt_synth.specs.Classes.{AreClasses, Class, HasTrees}
use Rattle.mt_script.specs.declared.command.Command.{Command}
use Rattle.mt_script.specs.Script.{commands_of}
use Rattle.mt_command.specs.Parts.{DeviceView, BoundView}
use Rattle.mt_pcap.specs.declared.fault.PcapFault.{PcapFault}
use Rattle.mt_pcap.specs.Capture.{Capture, is_header_fault}
use Rattle.mt_pcap.specs.Opened.{capture_in}
use Rattle.metron.specs.Serving.{Held, HasInputRisen}
use Rattle.metron.specs.declared.outcome.FileId.TheVariants as file
use Rattle.metron.specs.declared.outcome.Fault.{Fault}
use Rattle.metron.specs.declared.outcome.Fault.TheVariants.{Unbuilt, TooLong, Click, Classes, Script, Read, Memory}
use Rattle.metron.specs.declared.outcome.Fault.TheVariants as fault

-- bytes, where they are told
abbrev pub Told : Type 0
Told = Option (List ℕ)

-- the most bytes that the text of a chain has, and that of a script
abbrev pub text_limit : ℕ
text_limit = 1048576

-- ---- the chain

-- the text is a configuration of a graph that is this chain, which is accepted
pub record IsChain (text : List ℕ) (chain : ChainState) : Type 0 where
  pub short : length text ≤ text_limit
  pub graph : Graph
  pub parsed : IsGraph text graph
  pub made : IsChainOf graph.elements.items graph.wires.items chain
  pub accepted : IsAccepted chain

-- the text has a fault, the first
pub record IsNoConfiguration (text : List ℕ) (told : ClickFault) : Type 0 where
  pub short : length text ≤ text_limit
  pub first : TextFault
  pub is : IsFault text first
  pub told_is : told ≡ located text first

-- the text is a configuration of a graph that is refused, with this first refusal
pub record IsNoChain (text : List ℕ) (told : ChainFault) : Type 0 where
  pub short : length text ≤ text_limit
  pub graph : Graph
  pub parsed : IsGraph text graph
  pub refused : refusals.IsRefused graph.elements.items graph.wires.items told

-- so few classes that they have numbers
pub record HasClasses (chain : ChainState) : Type 0 where
  pub classes : List Class
  pub are : AreClasses chain.entries (tree_of chain) classes
  pub few : length classes < 65536

-- it is accepted, but so many of its headers have trees of their own
pub record HasTooManyClasses (text : List ℕ) (count : ℕ) : Type 0 where
  pub chain : ChainState
  pub is : IsChain text chain
  pub count_is : count ≡ 65536
  pub many : HasTrees chain.entries (tree_of chain) 65536

-- why a text gives no chain that runs
abbrev pub IsTextFault : List ℕ → Fault → Type 0
IsTextFault text (TooLong file.Chain) = text_limit < length text
IsTextFault text (Click told) = IsNoConfiguration text told
IsTextFault text (fault.Chain told) = IsNoChain text told
IsTextFault text (Classes count) = HasTooManyClasses text count
IsTextFault text fault = ⊥

-- what a text gives: a chain that runs, or why there is none
abbrev pub ReadsAs : List ℕ → Result ChainState Fault → Type 0
ReadsAs text (Ok chain) = IsChain text chain × HasClasses chain
ReadsAs text (Err fault) = IsTextFault text fault

abbrev pub IsChainRead : Told → ChainState → Type 0
IsChainRead held chain = IfSome held (λ text. IsChain text chain) × HasClasses chain

-- why the chain's file gives no chain; the numbers are its failed reads before and after
abbrev pub IsChainFault : Told → ℕ → ℕ → Fault → Type 0
IsChainFault held before after (TooLong file.Chain) = IfSome held (λ text. text_limit < length text)
IsChainFault held before after (Click told) = IfSome held (λ text. IsNoConfiguration text told)
IsChainFault held before after (fault.Chain told) = IfSome held (λ text. IsNoChain text told)
IsChainFault held before after (Classes count) = IfSome held (λ text. HasTooManyClasses text count)
IsChainFault held before after (Read file.Chain) = Rose before after
IsChainFault held before after Memory = ⊤
IsChainFault held before after fault = ⊥

-- ---- devices

-- the element sends on the device of that number
abbrev pub sends_on : ℕ → Kind → Bool
sends_on number (ToDevice device) = device == number
sends_on number kind = false

abbrev pub device_of : ChainState → ℕ → List ℕ → DeviceView
device_of chain number name = record {
  name = name;
  is_input = nat_le number chain.entries;
  is_output = list_any (sends_on number) chain.kinds;
}

abbrev pub devices_from : ChainState → ℕ → List (List ℕ) → List DeviceView
devices_from chain number [] = []
devices_from chain number (name ∷ names) = device_of chain number name ∷ devices_from chain (number + 1) names

-- the devices of a chain, that of number 1 first
abbrev pub devices_of : ChainState → List DeviceView
devices_of chain = devices_from chain 1 chain.devices

abbrev pub or_empty : Told → List ℕ
or_empty None = []
or_empty (Some name) = name

-- the files of the captures, by device: the first devices, as many as the entries
abbrev pub inputs_of : ChainState → List BoundView → List (List ℕ)
inputs_of chain bound = map (λ b. or_empty b.input) (take chain.entries bound)

-- the file that is written for each device, if it is sent on
abbrev pub outputs_of : List BoundView → List Told
outputs_of bound = map (λ b. b.output) bound

-- ---- the script

-- the text has no command
abbrev pub IsIdle : List ℕ → Type 0
IsIdle text = (length text ≤ text_limit) × (commands_of text ≡ Ok [])

abbrev pub IsScriptRead : Told → Type 0
IsScriptRead held = IfSome held IsIdle

-- the text has a command; none runs yet
pub record IsBusy (text : List ℕ) : Type 0 where
  pub short : length text ≤ text_limit
  pub commands : List Command
  pub are : commands_of text ≡ Ok commands
  pub some : 0 < length commands

abbrev pub ScriptFault : Told → ℕ → ℕ → Fault → Type 0
ScriptFault held before after (TooLong file.Script) = IfSome held (λ text. text_limit < length text)
ScriptFault held before after (Script told) = IfSome held (λ text. (length text ≤ text_limit) × (commands_of text ≡ Err told))
ScriptFault held before after (Unbuilt file.Script) = IfSome held IsBusy
ScriptFault held before after (Read file.Script) = Rose before after
ScriptFault held before after Memory = ⊤
ScriptFault held before after fault = ⊥

-- ---- captures

-- the file begins with the header of a capture of Ethernet frames
abbrev pub BeginsWell : Held → List ℕ → Type 0
BeginsWell held name = IfSome (capture_in held name) (λ c. is_header_fault c.end ≡ false)

-- all files before an index do
abbrev pub BeginWell : Held → List (List ℕ) → ℕ → Type 0
BeginWell held names n = (index : ℕ) (name : List ℕ) → index < n → slice_get names index ≡ Some name → BeginsWell held name

-- the first file that does not is that of this device, and this is its fault
pub record IsFirstRefused (held : Held) (names : List (List ℕ)) (device : ℕ) (why : PcapFault) : Type 0 where
  pub index : ℕ
  pub name : List ℕ
  pub device_is : device ≡ index + 1
  pub file_is : slice_get names index ≡ Some name
  pub of_header : is_header_fault (Some why) ≡ true
  pub ends : IfSome (capture_in held name) (λ c. c.end ≡ Some why)
  pub first : BeginWell held names index

-- why the capture of a device was not opened; the numbers are its file's failed reads before and after
abbrev pub OpenFault : ℕ → Option Capture → ℕ → ℕ → Fault → Type 0
OpenFault device capture before after (fault.Capture number why) = (number ≡ device) × (is_header_fault (Some why) ≡ true) × IfSome capture (λ c. c.end ≡ Some why)
OpenFault device capture before after (Read (file.Capture number)) = (number ≡ device) × Rose before after
OpenFault device capture before after Memory = ⊤
OpenFault device capture before after fault = ⊥

-- why not all were opened
abbrev pub CaptureFault : Held → List (List ℕ) → (List ℕ → ℕ) → (List ℕ → ℕ) → Fault → Type 0
CaptureFault held names old new (fault.Capture device why) = IsFirstRefused held names device why
CaptureFault held names old new (Read (file.Capture device)) = HasInputRisen names device old new
CaptureFault held names old new Memory = ⊤
CaptureFault held names old new fault = ⊥
