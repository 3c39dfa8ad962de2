use Rattle.std.proofs.Common.{◌≡◌, ◌+◌, ◌-◌, length, arith}
use Rattle.std.specs.Prelude.{chars}
use Rattle.document_store.specs.Places.{bytes_before}
use Rattle.document_store.specs.Positions.{place_of}
use Rattle.document_store.proofs.PlaceLemmas.{place_in_bytes, bytes_before-le, text_of_rest}
use Rattle.document_store.proofs.place.place_in.Goals as goal

pub overflow_sub-result : goal.overflow_sub-result
overflow_sub-result c = text_of_rest c.args.text.now c.args.rest.now c.args.at.line c.utf8.text c.utf8.rest (record { is = c.requires })

pub returns : goal.returns
returns c =
    place_in_bytes c.args.text.now c.args.rest.now c.args.at c.bytes_before_unit.result c.utf8.text c.utf8.rest (record { is = c.requires })
    c.bytes_before_unit.ensures

pub overflow_add-result : goal.overflow_add-result
overflow_add-result c =
    let sum : length c.args.text.now - length c.args.rest.now + c.bytes_before_unit.result ≡ bytes_before (chars c.args.text.now) (place_of (chars c.args.text.now) c.args.at) =
    place_in_bytes c.args.text.now c.args.rest.now c.args.at c.bytes_before_unit.result c.utf8.text c.utf8.rest (record { is = c.requires })
    c.bytes_before_unit.ensures in
    omega (arith, sum, bytes_before-le c.args.text.now (place_of (chars c.args.text.now) c.args.at) c.utf8.text)
