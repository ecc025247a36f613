-- What is written names outputs, and so do the specifications and templates that it becomes.
use Rattle.std.proofs.Common.{ℕ, List, map}
use Rattle.std.specs.List.{All}
use Rattle.std.proofs.lemmas.List.Elements.{All-map}
use Rattle.mt_kinds.specs.Outputs.{SpecInRange, TemplateInRange}
use Rattle.mt_kinds.specs.Written.{SpecStands, TemplateStands}
use Rattle.mt_kinds.specs.declared.rewriter.Pool.{Pool}
use Rattle.mt_kinds.specs.declared.written.WrittenSpec.{WrittenSpec}
use Rattle.mt_kinds.specs.declared.written.WrittenSpec.TheVariants as written
use Rattle.mt_kinds.specs.declared.written.WrittenTemplate.{WrittenTemplate}
use Rattle.mt_elements.specs.Described.{spec_of, template_of}

template_in_range : (pools : List Pool) (t : WrittenTemplate) → TemplateStands t → TemplateInRange (template_of pools t)
template_in_range pools t h = (h.fout, h.rout)

spec_in_range : (pools : List Pool) (names : List (List ℕ)) (scope : List ℕ) (s : WrittenSpec) → SpecStands s → SpecInRange (spec_of pools names scope s)
spec_in_range pools names scope written.Drop h = h
spec_in_range pools names scope (written.Pass out) h = h
spec_in_range pools names scope (written.Keep fout rout) h = h
spec_in_range pools names scope (written.Pattern t) h = (h.fout, h.rout)
spec_in_range pools names scope (written.Mapper name) h = h

pub templates_in_range : (pools : List Pool) (ts : List WrittenTemplate) → All TemplateStands ts → All TemplateInRange (map (template_of pools) ts)
templates_in_range pools ts h = All-map TemplateInRange (template_of pools) ts (λ k d lt. template_in_range pools _ (h k d lt))

pub specs_in_range : (pools : List Pool) (names : List (List ℕ)) (scope : List ℕ) (ss : List WrittenSpec) → All SpecStands ss
    → All SpecInRange (map (spec_of pools names scope) ss)
specs_in_range pools names scope ss h = All-map SpecInRange (spec_of pools names scope) ss (λ k d lt. spec_in_range pools names scope _ (h k d lt))
