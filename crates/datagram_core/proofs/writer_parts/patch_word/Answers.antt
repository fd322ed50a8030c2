use Rattle.std.proofs.Common.{rules}
use Rattle.datagram_core.proofs.Puts.{behind_patched}
use Rattle.datagram_core.proofs.writer_parts.patch_word.Goals as goal

pub returns-clause-behind : goal.returns-clause-behind
returns-clause-behind c =
    search (
      rules,
      behind_patched c.args.room.now c.args.len c.resume-out.result c.patch_word.new.self c.resume-out.ensures.bytes
          c.resume-out.ensures.len c.patch_word.ensures.patches.len c.patch_word.ensures.behind,
    )
