use Rattle.std.proofs.lemmas.List.Elements.{All-same, All-push}
use Rattle.et_class.specs.Classes.{HasItsParts}
use Rattle.et_link.specs.Declaring.{HasItsFile}
use Rattle.et_part_tests.proofs.links.read_all.Goals as goal

pub sources-preserved : goal.sources-preserved
sources-preserved c =
    let old = c.sources.files.items in
    let file = c.in_ok-file.file in
    let pushed = c.in_ok-push.ensures.items in
    record {
      parts = All-same HasItsParts _ _ pushed (All-push HasItsParts old file c.sources.invariant.parts c.in_ok-file.ensures.parts);
      of_files = All-same HasItsFile _ _ pushed (All-push HasItsFile old file c.sources.invariant.of_files c.in_ok-file.ensures.of_file);
    }
