use Rattle.std.proofs.Common.{◌≡◌, ◌∙◌, arith, refl, sym}
use Rattle.std.specs.Prelude.{codes}
use Rattle.hx_http.proofs.WritingLemmas.{pieces_of_request}
use Rattle.hx_http.proofs.message.Message.append_request_line.Goals as goal

pub returns-in_ok-extend_from_slice-4 : goal.returns-in_ok-extend_from_slice-4
returns-in_ok-extend_from_slice-4 c =
    let none : c.args.self.now.minor ≡ 0 = sym c.minor.ensures.value ∙ c.if-minor-eq0.true in
    rw (
      c.in_ok-extend_from_slice-4.ensures.items,
      c.in_ok-extend_from_slice-3.ensures.items,
      c.in_ok-extend_from_slice-2.ensures.items,
      c.in_ok-extend_from_slice.ensures.items,
      c.method.ensures,
      c.target.ensures,
    )
    (pieces_of_request c.args.text.now.items (codes " HTTP/1.0") c.args.self.now (omega (arith, none))
    (rw none refl))

pub returns-in_ok-extend_from_slice-5 : goal.returns-in_ok-extend_from_slice-5
returns-in_ok-extend_from_slice-5 c =
    let one : c.args.self.now.minor ≡ 1 =
    sym c.minor.ensures.value ∙ omega (arith, c.minor.ensures.known, c.if-minor-eq0.false) in
    rw (
      c.in_ok-extend_from_slice-5.ensures.items,
      c.in_ok-extend_from_slice-3.ensures.items,
      c.in_ok-extend_from_slice-2.ensures.items,
      c.in_ok-extend_from_slice.ensures.items,
      c.method.ensures,
      c.target.ensures,
    )
    (pieces_of_request c.args.text.now.items (codes " HTTP/1.1") c.args.self.now (omega (arith, one))
    (rw one refl))
