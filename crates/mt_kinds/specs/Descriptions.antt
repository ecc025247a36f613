-- What the class of an element and its arguments say (Click manual, in this project's profile).
use Rattle.std.specs.Prelude.{ℕ, Bool, ◌&&◌, if◌then◌else◌, List, [], ◌∷◌, codes, Option, Some, None, Result, Ok, Err, option_map}
use Rattle.std.specs.List.{list_all, list_any}
use Rattle.std.specs.Str.{bytes_eq}
use Rattle.mt_text.specs.Byte.{is_identifier}
use Rattle.mt_kinds.specs.Arguments.{is_keyword}
use Rattle.mt_kinds.specs.Classes.{kind_of}
use Rattle.mt_kinds.specs.Rewriters.{specs_of, templates_of}
use Rattle.mt_kinds.specs.declared.description.Description.{Description}
use Rattle.mt_kinds.specs.declared.description.Description.TheVariants.{FromDevice, ToDevice, Rewriter, Mapper, Settled}
use Rattle.mt_kinds.specs.declared.description.Misread.{Misread}
use Rattle.mt_kinds.specs.declared.description.Misread.TheVariants.{UnknownClass, BadArgs}

-- ---- the classes

-- their names
abbrev pub class_names : List (List ℕ)
class_names =
    codes "FromDevice" ∷ codes "ToDevice" ∷ codes "Discard" ∷ codes "Null" ∷ codes "Counter" ∷ codes "Queue" ∷ codes "Paint"
    ∷ codes "PaintSwitch" ∷ codes "Classifier" ∷ codes "EtherMirror" ∷ codes "Strip" ∷ codes "CheckIPHeader" ∷ codes "EtherEncap"
    ∷ codes "DecIPTTL" ∷ codes "IPFilter" ∷ codes "IPClassifier" ∷ codes "LookupIPRoute" ∷ codes "StaticIPLookup"
    ∷ codes "LinearIPLookup" ∷ codes "RadixIPLookup" ∷ codes "SetIPDSCP" ∷ codes "StoreIPAddress" ∷ codes "GetIPAddress"
    ∷ codes "IPMirror" ∷ codes "IPRewriter" ∷ codes "RoundRobinIPMapper" ∷ []

unfoldable pub is_class_name : List ℕ → Bool
is_class_name class = list_any (bytes_eq class) class_names

-- ---- their arguments

-- the name of a device, and any number of arguments that begin with an upper-case word, which say nothing
unfoldable pub device_of : List (List ℕ) → Option (List ℕ)
device_of [] = None
device_of (name ∷ others) = if is_identifier name && list_all is_keyword others then Some name else None

-- what a class and arguments say that it takes
unfoldable pub described : List ℕ → List (List ℕ) → Option Description
described class arguments =
    if bytes_eq class (codes "FromDevice") then option_map FromDevice (device_of arguments)
    else if bytes_eq class (codes "ToDevice") then option_map ToDevice (device_of arguments)
    else if bytes_eq class (codes "IPRewriter") then option_map Rewriter (specs_of arguments)
    else if bytes_eq class (codes "RoundRobinIPMapper") then option_map Mapper (templates_of arguments)
    else option_map Settled (kind_of class arguments)

abbrev pub or_bad : Option Description → Result Description Misread
or_bad (Some description) = Ok description
or_bad None = Err BadArgs

-- What an element says: nothing where no class has that name, or where the class does not take the arguments.
unfoldable pub description_of : List ℕ → List (List ℕ) → Result Description Misread
description_of class arguments = if is_class_name class then or_bad (described class arguments) else Err UnknownClass
