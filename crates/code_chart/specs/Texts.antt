-- The texts of a chart that are always the same.
use Rattle.std.specs.Prelude.{ℕ, List, codes}

-- how a chart looks, behind the size of the page
unfoldable pub style : List ℕ
style = codes "text{font-family:'Times New Roman',Times,serif;font-size:20px;text-anchor:middle;fill:#1a1a1a}\npath{fill:none;stroke:#1a1a1a;stroke-width:6;stroke-linecap:round}\n.p{fill:#f6edd2;stroke:#cdbd91}\n.d{stroke:#9c9376;stroke-width:2;stroke-dasharray:0 18}\n.c,.n,.g,.o,.w,.h,.i{font-family:Helvetica,Arial,sans-serif}\n.c{font-size:13px;font-weight:bold;fill:#1256a8}\n.n{font-size:10px;fill:#55585e}\n.w{font-size:9px;text-anchor:start;fill:#66696f}\n.g{font-size:9px;text-anchor:start;fill:#7a4b00}\n.o{font-size:9px;text-anchor:start}\n.i{font-size:11px;text-anchor:start;fill:#55585e}\n.h{font-size:16px;font-weight:bold;text-anchor:start}\n.m{fill:#ffffff;stroke:#d5d9df}\n.v{fill:#fadcdc;stroke:#c00000}\n.x{fill:#c00000}\n.z{fill:#fdfcf8}\n"

-- what begins the style of a document
unfoldable pub svg_style_lead : List ℕ
svg_style_lead = codes "<style type='text/css'>\n"

-- the end of its style, and the ground
unfoldable pub svg_ground : List ℕ
svg_ground = codes "</style>\n<rect class='z' width='100%' height='100%'/>\n"

-- how a cell reads
unfoldable pub cell_legend : List ℕ
cell_legend = codes "In each cell the holes, level 0 on top, and the number | above the meaning unshifted, below it the meaning shifted, each with its width in units"

-- what is marked
unfoldable pub sign_legend : List ℕ
sign_legend = codes "red: no meaning, or a matrix without a width | = 5: combination 5 means the same, unshifted or shifted"

-- what the marks of functions stand for
unfoldable pub function_legend : List ℕ
function_legend = codes "SB spaceband | SH shift | UN unshift | EL elevate, which ends a line | RT return | UR upper rail | LR lower rail"

-- what the others stand for
unfoldable pub quad_legend : List ℕ
quad_legend = codes "QL QC QR quad left, center, right | TH EN EM thin, en, em space | IG ignored"

-- the end of the title of a page, and what begins its style
unfoldable pub page_style_lead : List ℕ
page_style_lead = codes "</title>\n<style>\n"

-- how a page looks round its cells, and what begins its heading
unfoldable pub page_style_end : List ℕ
page_style_end = codes "@page{size:auto;margin:10mm}\n:root{color-scheme:only light;-webkit-print-color-adjust:exact;print-color-adjust:exact}\nbody{max-width:840px;margin:0 auto;padding:16px;background:#fdfcf8;color:#1a1a1a;font-family:Helvetica,Arial,sans-serif}\nh1{font-size:1.25em;overflow-wrap:anywhere}\np{font-size:.85em;line-height:1.5}\nmain{display:grid;grid-template-columns:repeat(auto-fill,minmax(100px,1fr))}\nmain>svg{display:block;width:100%;break-inside:avoid}\n@media print{main{grid-template-columns:repeat(8,1fr)}}\n</style>\n</head>\n<body>\n<h1>"

-- the end of its heading, what the marks stand for, and what begins its cells
unfoldable pub page_legend : List ℕ
page_legend = codes "</h1>\n<p>In each cell the holes, level 0 on top, and the number | above the meaning unshifted, below it the meaning shifted, each with its width in units<br>\nred: no meaning, or a matrix without a width | = 5: combination 5 means the same, unshifted or shifted<br>\nSB spaceband | SH shift | UN unshift | EL elevate, which ends a line | RT return | UR upper rail | LR lower rail<br>\nQL QC QR quad left, center, right | TH EN EM thin, en, em space | IG ignored</p>\n<main>\n"

-- the end of a page
unfoldable pub page_end : List ℕ
page_end = codes "</main>\n</body>\n</html>\n"
