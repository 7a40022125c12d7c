use Rattle.std.proofs.Common.{◌∙◌}
use Rattle.permit_cli.proofs.Tellings.{beside_told, replayed_told, sound_told, upgraded_told, verified_told}
use Rattle.permit_cli.proofs.telling.tell.Goals as goal

pub returns-in_ok-upgraded_text-in-Upgraded-clause-told : goal.returns-in_ok-upgraded_text-in-Upgraded-clause-told
returns-in_ok-upgraded_text-in-Upgraded-clause-told g c =
    upgraded_told _ c.in-Upgraded.files _ _ _ _ c.in-Upgraded.is (c.as_str-in-Upgraded.ensures.value ∙ c.in_ok-upgraded_text-in-Upgraded.ensures)
    c.tell_text-in-Upgraded.ensures

pub returns-in_ok-sound_text-in-Sound-clause-told : goal.returns-in_ok-sound_text-in-Sound-clause-told
returns-in_ok-sound_text-in-Sound-clause-told g c =
    sound_told _ c.in-Sound.desk _ _ _ _ c.in-Sound.is (c.as_str-in-Sound.ensures.value ∙ c.in_ok-sound_text-in-Sound.ensures)
    c.tell_text-in-Sound.ensures

pub returns-in_ok-replayed_text-in-Replayed-clause-told : goal.returns-in_ok-replayed_text-in-Replayed-clause-told
returns-in_ok-replayed_text-in-Replayed-clause-told g c =
    replayed_told _ c.in-Replayed.brought _ _ _ _ c.in-Replayed.is (c.as_str-in-Replayed.ensures.value ∙ c.in_ok-replayed_text-in-Replayed.ensures)
    c.tell_text-in-Replayed.ensures

pub returns-in-SoundBeside-clause-told : goal.returns-in-SoundBeside-clause-told
returns-in-SoundBeside-clause-told g c =
    beside_told _ c.in-SoundBeside.desk c.in-SoundBeside.evidence _ _ _ c.in-SoundBeside.is c.tell_beside.ensures

pub returns-in_ok-verified_text-in-Verified-clause-told : goal.returns-in_ok-verified_text-in-Verified-clause-told
returns-in_ok-verified_text-in-Verified-clause-told g c =
    verified_told _ c.in-Verified.lines _ _ _ _ c.in-Verified.is (c.as_str-in-Verified.ensures.value ∙ c.in_ok-verified_text-in-Verified.ensures)
    c.tell_text-in-Verified.ensures
