-- The visible part of a box.
use Rattle.std.specs.Prelude.{List, map}
use Rattle.mt_packet.specs.Header.{visible_fields, number_of}
use Rattle.mt_packet.specs.declared.field.Field.{Field}
use Rattle.mt_packet.specs.declared.span.Span.{Span}
use Rattle.mt_boxes.specs.Boxes.{span_at}

-- a box's span of a field
abbrev pub span_of : List Span → Field → Span
span_of spans field = span_at spans (number_of field)

-- the spans of the visible fields
abbrev pub visible_spans : List Span → List Span
visible_spans spans = map (span_of spans) visible_fields
