use Rattle.std.proofs.Common.{sym, subst}
use Rattle.std.specs.Prelude.{Option, IsSome, ◌↔◌, List, ℕ}
use Rattle.mt_boxes.specs.declared.boxes.HeaderBox.{HeaderBox}
use Rattle.mt_boxes.specs.Boxes.{InBox, IsHeader}
use Rattle.mt_boxes.proofs.Shared.{meeting_outside, meeting}
use Rattle.mt_boxes.proofs.meeting.meet.Goals as goal

pub returns-in_err-of_headers-clause-some : goal.returns-in_err-of_headers-clause-some
returns-in_err-of_headers-clause-some c =
    let w = meeting_outside c.all_headers.result.spans c.args.a.now.spans c.args.b.now.spans c.common_box.result c.all_headers.ensures c.common_box.ensures.met c.in_err-of_headers.was in
    subst (λ (result : Option HeaderBox). IsSome result ↔ ((header : List ℕ) × IsHeader header × InBox c.args.a.now.spans header × InBox c.args.b.now.spans header)) (sym c.from_residual.ensures) w.some

pub returns-clause-some : goal.returns-clause-some
returns-clause-some c =
    let w = meeting c.all_headers.result.spans c.args.a.now.spans c.args.b.now.spans c.in_ok-of_headers.of_headers c.common_box-2.result c.all_headers.ensures c.common_box.ensures.as_many c.common_box-2.ensures.as_many
    c.in_ok-of_headers.ensures.met c.common_box-2.ensures.met in
    w.some

pub returns-clause-headers : goal.returns-clause-headers
returns-clause-headers c =
    let w = meeting c.all_headers.result.spans c.args.a.now.spans c.args.b.now.spans c.in_ok-of_headers.of_headers c.common_box-2.result c.all_headers.ensures c.common_box.ensures.as_many c.common_box-2.ensures.as_many
    c.in_ok-of_headers.ensures.met c.common_box-2.ensures.met in
    w.headers

pub returns-clause-formed : goal.returns-clause-formed
returns-clause-formed c =
    let w = meeting c.all_headers.result.spans c.args.a.now.spans c.args.b.now.spans c.in_ok-of_headers.of_headers c.common_box-2.result c.all_headers.ensures c.common_box.ensures.as_many c.common_box-2.ensures.as_many
    c.in_ok-of_headers.ensures.met c.common_box-2.ensures.met in
    w.formed
