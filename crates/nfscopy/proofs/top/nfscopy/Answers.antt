use Rattle.std.proofs.Common.{◌≡◌, Some, map, refl, rules}
use Rattle.std.specs.String.{string_bytes}
use Rattle.command_line.specs.Command.{command_of}
use Rattle.command_line.specs.declared.command.Command.TheVariants.{Copy, Format, Gen, ServeDest, ServeSource}
use Rattle.nfscopy.proofs.Formatted.{ends_copy, ends_format, ends_serve, ends_serve_dest}
use Rattle.nfscopy.proofs.Generating.{ends_gen}
use Rattle.nfscopy.proofs.top.nfscopy.Goals as goal

pub returns-in-Gen : goal.returns-in-Gen
returns-in-Gen g c =
    let asked : Some (Gen c.in-Gen.plan) ≡ command_of (map string_bytes c.args.words.now) = search rules in
    ends_gen _ _ _ _ c.in-Gen.plan _ _ _ _ _ asked
    (c.do_gen.ensures.ends (g.S.Stream.gives c.args.input.now).left (g.S.Stream.gives c.args.input.now).faults) c.do_gen.ensures.kept refl refl
    c.do_gen.ensures.later

pub returns-in-Format : goal.returns-in-Format
returns-in-Format g c =
    let asked : Some (Format c.in-Format.new) ≡ command_of (map string_bytes c.args.words.now) = search rules in
    ends_format _ _ _ _ c.in-Format.new _ _ _ _ _ asked
    (c.do_format.ensures.ends (g.S.Stream.gives c.args.input.now).left (g.S.Stream.gives c.args.input.now).faults) c.do_format.ensures.dest refl refl
    c.do_format.ensures.later

pub returns-in-ServeSource : goal.returns-in-ServeSource
returns-in-ServeSource g c =
    let asked : Some (ServeSource c.in-ServeSource.service) ≡ command_of (map string_bytes c.args.words.now) = search rules in
    ends_serve _ _ _ _ c.in-ServeSource.service _ _ _ _ _ _ asked c.serve_as_source.ensures.ends refl refl refl c.serve_as_source.ensures.later

pub returns-in-ServeDest : goal.returns-in-ServeDest
returns-in-ServeDest g c =
    let asked : Some (ServeDest c.in-ServeDest.order) ≡ command_of (map string_bytes c.args.words.now) = search rules in
    ends_serve_dest _ _ _ _ c.in-ServeDest.order _ _ _ _ _ _ asked c.serve_as_dest.ensures.ends refl refl refl c.serve_as_dest.ensures.later

pub returns-in-Copy : goal.returns-in-Copy
returns-in-Copy g c =
    let asked : Some (Copy c.in-Copy.order) ≡ command_of (map string_bytes c.args.words.now) = search rules in
    ends_copy _ _ _ _ c.in-Copy.order _ _ _ _ _ _ asked c.copy.ensures.ends refl refl refl refl c.copy.ensures.later
