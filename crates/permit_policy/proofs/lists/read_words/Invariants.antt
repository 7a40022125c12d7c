use Rattle.std.proofs.Common.{◌≡◌, drop, ◌++◌}
use Rattle.std.specs.List.{filter_map}
use Rattle.permit_base.specs.Words.{named}
use Rattle.permit_policy.specs.PolicyText.{are_words}
use Rattle.permit_policy.proofs.Texts.{texts}
use Rattle.permit_policy.proofs.lists.read_words.Given as goal

-- the texts that are left decide, and their words are those that are missing
abbrev pub invariant-loop-i : goal.invariant-loop-i
invariant-loop-i g l =
    let read = named g.W.Word.spelling g.W.Word.every in
    record {
      checked : are_words read (texts (drop l.i l.values)) ≡ are_words read (texts l.values);
      missing : l.words.items ++ filter_map read (texts (drop l.i l.values)) ≡ filter_map read (texts l.values);
    }
