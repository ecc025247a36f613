-- What holds of templates and specifications as they are written.
use Rattle.std.specs.Prelude.{◌≡◌, ◌≤◌, ℕ, Option, Some, ⊤}
use Rattle.mt_kinds.specs.declared.written.WrittenPort.{WrittenPort}
use Rattle.mt_kinds.specs.declared.written.WrittenPort.TheVariants as port
use Rattle.mt_kinds.specs.declared.written.WrittenSpec.{WrittenSpec}
use Rattle.mt_kinds.specs.declared.written.WrittenSpec.TheVariants as spec
use Rattle.mt_kinds.specs.declared.written.WrittenTemplate.{WrittenTemplate}
use Rattle.mt_kinds.specs.Outputs.{IsOutput}

-- ports of a range are those of an address, the least no greater than the greatest
abbrev pub PortStands : Option ℕ → WrittenPort → Type 0
PortStands address port.Same = ⊤
PortStands address (port.One number) = ⊤
PortStands address (port.Range lo hi) = ((of : ℕ) × (address ≡ Some of)) × (lo ≤ hi)

pub record TemplateStands (template : WrittenTemplate) : Type 0 where
  pub port : PortStands template.sa template.sp
  pub fout : IsOutput template.fout
  pub rout : IsOutput template.rout

abbrev pub SpecStands : WrittenSpec → Type 0
SpecStands spec.Drop = ⊤
SpecStands (spec.Pass out) = IsOutput out
SpecStands (spec.Keep fout rout) = IsOutput fout × IsOutput rout
SpecStands (spec.Pattern template) = TemplateStands template
SpecStands (spec.Mapper name) = ⊤
