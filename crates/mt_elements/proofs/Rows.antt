-- The definitions on small examples.
use Rattle.std.proofs.Common.{◌≡◌, refl, ℕ, false, List, [], ◌∷◌}
use Rattle.std.specs.Prelude.{codes, Some, None}
use Rattle.mt_kinds.specs.declared.description.Description.TheVariants.{FromDevice, ToDevice, Rewriter}
use Rattle.mt_kinds.specs.declared.description.Misread.TheVariants.{BadArgs}
use Rattle.mt_kinds.specs.declared.rewriter.Pool.{Pool}
use Rattle.mt_kinds.specs.declared.rewriter.SourcePort.TheVariants as port
use Rattle.mt_kinds.specs.declared.rewriter.Spec.TheVariants as spec
use Rattle.mt_kinds.specs.declared.written.WrittenPort.TheVariants.{One, Range}
use Rattle.mt_kinds.specs.declared.written.WrittenSpec.TheVariants.{Drop, Mapper}
use Rattle.mt_elements.specs.Described.{scope_length, scope_of, is_known, misfit, firsts, devices_of, device_of, is_pool, port_of, spec_of}

-- ---- scopes and mappers

declared_inside : scope_of (codes "12/3/rw") ≡ codes "12/3/"
unfolding scope_length
declared_inside = refl

declared_outside : scope_of (codes "rw") ≡ []
unfolding scope_length
declared_outside = refl

without_a_name : scope_of (codes "7/") ≡ codes "7/"
unfolding scope_length
without_a_name = refl

abbrev two_mappers : List (List ℕ)
two_mappers = codes "m" ∷ codes "2/m" ∷ []

mapper_inside : spec_of [] two_mappers (codes "2/") (Mapper (codes "m")) ≡ spec.Mapper 1
mapper_inside = refl

mapper_outside : is_known two_mappers (codes "3/") (Mapper (codes "m")) ≡ false
mapper_outside = refl

-- ---- what is wrong with an element

unknown_mapper : misfit two_mappers [] (codes "3/") (Rewriter (Drop ∷ Mapper (codes "m") ∷ [])) ≡ Some BadArgs
unknown_mapper = refl

entered_twice : misfit [] (codes "eth0" ∷ []) [] (FromDevice (codes "eth0")) ≡ Some BadArgs
entered_twice = refl

sent_twice : misfit [] (codes "eth0" ∷ []) [] (ToDevice (codes "eth0")) ≡ None
sent_twice = refl

-- ---- numbers

-- devices by which frames enter stand first, in the order of the elements
devices_in_order : devices_of (ToDevice (codes "b") ∷ ToDevice (codes "c") ∷ FromDevice (codes "a") ∷ FromDevice (codes "b") ∷ ToDevice (codes "a") ∷ []) ≡ codes "a" ∷ codes "b" ∷ codes "c" ∷ []
devices_in_order = refl

second_device : device_of (codes "a" ∷ codes "b" ∷ []) (codes "b") ≡ 2
second_device = refl

abbrev low : Pool
low = record { address = 1; lo = 1; hi = 9 }

abbrev high : Pool
high = record { address = 1; lo = 10; hi = 19 }

pools_once : firsts is_pool (low ∷ high ∷ low ∷ []) ≡ low ∷ high ∷ []
pools_once = refl

second_pool : port_of (low ∷ high ∷ []) (Some 1) (Range 10 19) ≡ port.Pool 1
second_pool = refl

one_port : port_of (low ∷ high ∷ []) (Some 1) (One 10) ≡ port.One 10
one_port = refl
