use Rattle.std.proofs.Common.{◌≡◌, ◌++◌, ◌∙◌, ap, append_assoc, length}
use Rattle.std.specs.Prelude.{string_bytes}
use Rattle.std.specs.Fmt.{decimal}
use Rattle.rpc_framing.specs.Frames.{label, line_end}
use Rattle.rpc_framing.proofs.writer.write_frame.Goals as goal

-- the header is behind what was there, and the body behind the header
pub returns-clause-ok : goal.returns-clause-ok
unfolding label
returns-clause-ok c =
    let header : string_bytes c.in_ok-header.header ≡ label ++ (decimal (length c.args.body.now) ++ (line_end ++ line_end)) = c.in_ok-header.ensures.ok in
    let first : c.extend_from_slice.new.self.items ≡ c.reserve.new.self.items ++ c.as_bytes.result.now = rw c.unwrap.ensures at c.extend_from_slice.ensures.items in
    let second : c.extend_from_slice-2.new.self.items ≡ c.extend_from_slice.new.self.items ++ c.args.body.now = rw c.unwrap-2.ensures at c.extend_from_slice-2.ensures.items in
    second
    ∙ ap (λ t. t ++ c.args.body.now) (first ∙ ap (λ t. t ++ c.as_bytes.result.now) c.in_ok-reserve.ensures.items ∙ ap (λ t. c.args.out.now.items ++ t) (c.as_bytes.ensures.value ∙ header))
    ∙ append_assoc c.args.out.now.items (label ++ (decimal (length c.args.body.now) ++ (line_end ++ line_end))) c.args.body.now
