-- The inputs and outputs of an element, and which outputs a packet can take that enters by an input (Click manual,
-- in this project's profile). Mappers are the lists of their templates, by the mapper's number.
use Rattle.std.specs.Prelude.{◌≡◌, ◌<◌, ℕ, ◌+◌, max, ◌==◌, Bool, true, false, ◌||◌, List, [], ◌∷◌, length, map, Option, Some, None, slice_get}
use Rattle.std.specs.List.{list_any}
use Rattle.mt_kinds.specs.declared.kind.Kind.{Kind}
use Rattle.mt_kinds.specs.declared.kind.Kind.TheVariants.{FromDevice, ToDevice, Classifier, Discard, PaintSwitch, CheckIPHeader, DecIPTTL, IPFilter, IPClassifier, Route, IPRewriter, RoundRobinIPMapper}
use Rattle.mt_kinds.specs.declared.rewriter.Spec.{Spec}
use Rattle.mt_kinds.specs.declared.rewriter.Spec.TheVariants as spec
use Rattle.mt_kinds.specs.declared.rewriter.Template.{Template}
use Rattle.mt_kinds.specs.Outputs.{greatest, filter_outs, route_outs, template_outs, templates_outs}

-- an element that rewrites flows
abbrev pub is_rewriter : Kind → Bool
is_rewriter (IPRewriter specs) = true
is_rewriter kind = false

-- ---- inputs

-- A device's frames enter its FromDevice by no wire, and no packet goes to a mapper. A rewriter has an input for
-- each of its specifications.
abbrev pub input_count : Kind → ℕ
input_count (FromDevice device) = 0
input_count (RoundRobinIPMapper templates) = 0
input_count (IPRewriter specs) = length specs
input_count kind = 1

-- ---- the outputs that a rewriter's inputs name

abbrev pub templates_at : Option (List Template) → List Template
templates_at (Some templates) = templates
templates_at None = []

-- the templates of the mapper of that number
abbrev pub mapper_at : List (List Template) → ℕ → List Template
mapper_at mappers number = templates_at (slice_get mappers number)

-- those of the packets of a flow
abbrev pub forward_outs : List (List Template) → Spec → List ℕ
forward_outs mappers spec.Drop = []
forward_outs mappers (spec.Pass out) = []
forward_outs mappers (spec.Keep fout rout) = fout ∷ []
forward_outs mappers (spec.Pattern template) = template.fout ∷ []
forward_outs mappers (spec.Mapper number) = map (λ template. template.fout) (mapper_at mappers number)

-- those of replies
abbrev pub reply_outs : List (List Template) → Spec → List ℕ
reply_outs mappers spec.Drop = []
reply_outs mappers (spec.Pass out) = []
reply_outs mappers (spec.Keep fout rout) = rout ∷ []
reply_outs mappers (spec.Pattern template) = template.rout ∷ []
reply_outs mappers (spec.Mapper number) = map (λ template. template.rout) (mapper_at mappers number)

-- those of packets that have no mapping and get none
abbrev pub own_outs : Spec → List ℕ
own_outs spec.Drop = []
own_outs (spec.Pass out) = out ∷ []
own_outs (spec.Keep fout rout) = []
own_outs (spec.Pattern template) = []
own_outs (spec.Mapper number) = []

-- ---- how many outputs

-- one more than the greatest output that a specification names, 0 where it names none
abbrev pub spec_outs : List (List Template) → Spec → ℕ
spec_outs mappers spec.Drop = 0
spec_outs mappers (spec.Pass out) = out + 1
spec_outs mappers (spec.Keep fout rout) = max (fout + 1) (rout + 1)
spec_outs mappers (spec.Pattern template) = template_outs template
spec_outs mappers (spec.Mapper number) = templates_outs (mapper_at mappers number)

-- one more than the greatest output that the specifications of a rewriter name
abbrev pub rewriter_outs : List (List Template) → List Spec → ℕ
rewriter_outs mappers specs = greatest (spec_outs mappers) specs

-- How many outputs an element has. Those of a PaintSwitch are as many as `wired`, one more than the number of
-- its greatest output that is wired.
abbrev pub output_count : List (List Template) → Kind → ℕ → ℕ
output_count mappers (ToDevice device) wired = 0
output_count mappers Discard wired = 0
output_count mappers PaintSwitch wired = wired
output_count mappers (Classifier patterns) wired = length patterns
output_count mappers CheckIPHeader wired = 2
output_count mappers DecIPTTL wired = 2
output_count mappers (IPFilter rules) wired = filter_outs rules
output_count mappers (IPClassifier patterns) wired = length patterns
output_count mappers (Route hops) wired = route_outs hops
output_count mappers (IPRewriter specs) wired = rewriter_outs mappers specs
output_count mappers (RoundRobinIPMapper templates) wired = 0
output_count mappers kind wired = 1

-- whether an output may lead nowhere, so that packets are dropped at it
abbrev pub may_be_open : Kind → ℕ → Bool
may_be_open CheckIPHeader out = out == 1
may_be_open DecIPTTL out = out == 1
may_be_open kind out = false

-- ---- which outputs an input leads to

abbrev pub is_in : ℕ → List ℕ → Bool
is_in out outs = list_any (λ other. other == out) outs

-- a reply to a flow of one of the forward inputs leaves by that output
abbrev pub is_reply_out : List (List Template) → List Spec → ℕ → Bool
is_reply_out mappers specs out = list_any (λ spec. is_in out (reply_outs mappers spec)) specs

-- A packet that enters by a forward input belongs to a flow of that input, and one that enters by a reply input to
-- a flow of any forward input or to none.
abbrev pub spec_leads : List (List Template) → List Spec → ℕ → Spec → Bool
spec_leads mappers specs out spec.Drop = is_reply_out mappers specs out
spec_leads mappers specs out (spec.Pass own) = own == out || is_reply_out mappers specs out
spec_leads mappers specs out spec = is_in out (forward_outs mappers spec)

abbrev pub if_there : (Spec → Bool) → Option Spec → Bool
if_there test (Some spec) = test spec
if_there test None = false

-- Whether a packet that enters by an input can leave by an output. Beside rewriters each input leads to all
-- outputs; an input that a rewriter has not leads nowhere.
abbrev pub leads : List (List Template) → Kind → ℕ → ℕ → Bool
leads mappers (IPRewriter specs) input out = if_there (spec_leads mappers specs out) (slice_get specs input)
leads mappers kind input out = true

-- a packet leaves a rewriter by an output that it has
abbrev pub LeadsWithin : Type 0
LeadsWithin = (mappers : List (List Template)) (specs : List Spec) (input out wired : ℕ) → leads mappers (IPRewriter specs) input out ≡ true → out < output_count mappers (IPRewriter specs) wired
