-- The class that the tree of a partition finds.
use Rattle.std.proofs.Common.{◌≡◌, ℕ, List, map, inl, inr, sym, subst, arith}
use Rattle.mt_packet.specs.Header.{field_of}
use Rattle.mt_packet.specs.declared.span.Span.{Span}
use Rattle.mt_cuts.specs.Tree.{Tree, value_of}
use Rattle.mt_classes.specs.Partition.{HasClass, IsPartition, IsIndexOf}
use Rattle.mt_classes.specs.Parts.{TellsClass, TellsClasses}

is_found : (regions : List (List (List Span))) (header : List ℕ) (none value : ℕ) → ((number : ℕ) × HasClass regions number header) → TellsClass 0 none regions header value → HasClass regions value header
is_found regions header none value some (inl i) = let is = i.1.1 in subst (λ (n : ℕ). HasClass regions n header) (omega (arith, is)) i.1.0
is_found regions header none value some (inr o) = absurd (o.0 some.0 some.1)

pub found : (devices none : ℕ) (regions : List (List (List Span))) (tree : Tree) → IsPartition devices regions → TellsClasses devices 0 none regions tree → IsIndexOf regions devices tree
found devices none regions tree p tells =
    record { partition = p; finds = λ header h. is_found regions header none (value_of tree (field_of header)) (p.covered header h) (tells header h) }

pub found_in : {A : Type 0} (region_of : A → List (List Span)) (devices last none : ℕ) (list classes : List A) (tree : Tree) → list ≡ classes → last ≡ devices
    → IsPartition devices (map region_of classes) → TellsClasses last 0 none (map region_of list) tree → IsIndexOf (map region_of classes) last tree
found_in region_of devices last none list classes tree same is p tells =
    found last none (map region_of classes) tree (subst (λ (d : ℕ). IsPartition d (map region_of classes)) (sym is) p)
    (subst (λ l. TellsClasses last 0 none (map region_of l) tree) same tells)
