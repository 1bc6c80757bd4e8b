mod RunLaws
mod LeastLaws
mod InsertLaws
mod FewLaws
mod MergeLaws
mod SortLaws
