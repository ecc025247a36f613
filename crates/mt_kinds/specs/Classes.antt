-- The stateless classes, with the arguments that each takes (Click manual, in this project's profile).
use Rattle.std.specs.Prelude.{ℕ, Bool, ◌||◌, ◌==◌, if◌then◌else◌, List, [], ◌∷◌, codes, Option, Some, None, option_map}
use Rattle.std.specs.List.{list_all}
use Rattle.std.specs.Str.{bytes_eq}
use Rattle.mt_lists.specs.Options.{◌>>=◌}
use Rattle.mt_text.specs.Number.{number_up_to}
use Rattle.mt_text.specs.Address.{ipv4_address_of}
use Rattle.mt_kinds.specs.declared.kind.Kind.{Kind}
use Rattle.mt_kinds.specs.declared.kind.Kind.TheVariants.{Discard, Null, Counter, Queue, Paint, PaintSwitch, EtherMirror, Strip, CheckIPHeader, EtherEncap, DecIPTTL, SetIPDSCP, StoreIPAddress, GetIPAddress, IPMirror, Classifier, IPFilter, IPClassifier, Route}
use Rattle.mt_kinds.specs.Filters.{rules_of, ip_patterns_of}
use Rattle.mt_kinds.specs.Patterns.{patterns_of}
use Rattle.mt_kinds.specs.Routes.{hops_of}
use Rattle.mt_text.specs.Address.{ethernet_address_of}
use Rattle.mt_kinds.specs.Arguments.{is_number, is_keyword, end_of}

-- an element without arguments
unfoldable pub plain : Kind → List (List ℕ) → Option Kind
plain kind [] = Some kind
plain kind _ = None

-- any number of arguments that begin with an upper-case word
unfoldable pub counter_of : List (List ℕ) → Option Kind
counter_of arguments = if list_all is_keyword arguments then Some Counter else None

-- none, or a number
unfoldable pub queue_of : List (List ℕ) → Option Kind
queue_of [] = Some Queue
queue_of (capacity ∷ []) = option_map (λ _. Queue) (number_up_to 4294967295 capacity)
queue_of _ = None

-- 0 to 255
unfoldable pub paint_of : List (List ℕ) → Option Kind
paint_of (paint ∷ []) = option_map Paint (number_up_to 255 paint)
paint_of _ = None

-- this one number
unfoldable pub fixed : ℕ → Kind → List (List ℕ) → Option Kind
fixed number kind (argument ∷ []) = if is_number number argument then Some kind else None
fixed number kind _ = None

-- an EtherType other than that of ARP, 0x0806, and two Ethernet addresses, the source first
unfoldable pub encap_of : List (List ℕ) → Option Kind
encap_of (first ∷ second ∷ third ∷ []) = do
  ether_type ← number_up_to 65535 first
  src ← ethernet_address_of second
  dst ← ethernet_address_of third
  (if ether_type == 2054 then None else Some (EtherEncap ether_type src dst))
encap_of _ = None

-- 0 to 63
unfoldable pub point_of : List (List ℕ) → Option Kind
point_of (point ∷ []) = option_map SetIPDSCP (number_up_to 63 point)
point_of _ = None

-- an address, and which end it is stored at
unfoldable pub store_of : List (List ℕ) → Option Kind
store_of (first ∷ second ∷ []) = do
  address ← ipv4_address_of first
  which ← end_of second
  Some (StoreIPAddress address which)
store_of _ = None

-- What the stateless classes stand for that look at no Ethernet or IPv4 header, with these arguments.
unfoldable pub plain_kind : List ℕ → List (List ℕ) → Option Kind
plain_kind class arguments =
    if bytes_eq class (codes "Null") then plain Null arguments
    else if bytes_eq class (codes "Counter") then counter_of arguments
    else if bytes_eq class (codes "Queue") then queue_of arguments
    else if bytes_eq class (codes "Paint") then paint_of arguments
    else if bytes_eq class (codes "PaintSwitch") then plain PaintSwitch arguments
    else None

-- those that look at the Ethernet header alone, or check what is behind it
unfoldable pub frame_kind : List ℕ → List (List ℕ) → Option Kind
frame_kind class arguments =
    if bytes_eq class (codes "EtherMirror") then plain EtherMirror arguments
    else if bytes_eq class (codes "Strip") then fixed 14 Strip arguments
    else if bytes_eq class (codes "CheckIPHeader") then plain CheckIPHeader arguments
    else if bytes_eq class (codes "EtherEncap") then encap_of arguments
    else None

-- those that look at the IPv4 header
unfoldable pub datagram_kind : List ℕ → List (List ℕ) → Option Kind
datagram_kind class arguments =
    if bytes_eq class (codes "DecIPTTL") then plain DecIPTTL arguments
    else if bytes_eq class (codes "SetIPDSCP") then point_of arguments
    else if bytes_eq class (codes "StoreIPAddress") then store_of arguments
    else if bytes_eq class (codes "GetIPAddress") then fixed 16 GetIPAddress arguments
    else if bytes_eq class (codes "IPMirror") then plain IPMirror arguments
    else None

abbrev pub or_else : Option Kind → Option Kind → Option Kind
or_else (Some kind) other = Some kind
or_else None other = other

-- What a stateless class other than a Classifier stands for with these arguments, where it takes them.
unfoldable pub stateless_kind : List ℕ → List (List ℕ) → Option Kind
stateless_kind class arguments = or_else (plain_kind class arguments) (or_else (frame_kind class arguments) (datagram_kind class arguments))

-- ---- classes whose arguments take memory

-- one of the names of a route table
unfoldable pub is_lookup : List ℕ → Bool
is_lookup class =
    bytes_eq class (codes "LookupIPRoute") || bytes_eq class (codes "StaticIPLookup") || bytes_eq class (codes "LinearIPLookup")
    || bytes_eq class (codes "RadixIPLookup")

-- What a stateless class stands for with these arguments, where it takes them.
unfoldable pub kind_of : List ℕ → List (List ℕ) → Option Kind
kind_of class arguments =
    if bytes_eq class (codes "Classifier") then option_map Classifier (patterns_of arguments)
    else if bytes_eq class (codes "IPFilter") then option_map IPFilter (rules_of arguments)
    else if bytes_eq class (codes "IPClassifier") then option_map IPClassifier (ip_patterns_of arguments)
    else if is_lookup class then option_map Route (hops_of arguments)
    else if bytes_eq class (codes "Discard") then plain Discard arguments
    else stateless_kind class arguments
